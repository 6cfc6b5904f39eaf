pub use Rattle.file_makes.proofs.plan_growth
pub use Rattle.file_makes.proofs.plan_informed
pub use Rattle.file_makes.proofs.plan_values
pub use Rattle.file_makes.proofs.step_model
pub mod Roots
pub mod Nodes
pub mod Bits
pub mod Making
