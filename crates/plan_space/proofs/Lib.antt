pub use Rattle.space_model.proofs as space_model
pub mod Spanning
pub mod Stepping
