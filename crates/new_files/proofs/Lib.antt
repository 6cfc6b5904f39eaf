pub use Rattle.step_model.proofs as step_model
pub mod Spelled
pub mod Standing
