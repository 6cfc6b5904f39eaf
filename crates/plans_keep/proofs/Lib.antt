pub use Rattle.plan_spares.proofs.state_blocks
pub mod Keeping
