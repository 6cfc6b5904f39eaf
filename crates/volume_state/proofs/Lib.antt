pub use Rattle.volume_model.proofs.bit_set
pub mod Reports
