pub use Rattle.made_files.proofs as made_files
pub use Rattle.made_files.proofs.plan_values
pub use Rattle.made_files.proofs.step_model
pub use Rattle.written_values.proofs as written_values
pub use Rattle.written_values.proofs.change_steps
pub use Rattle.written_values.proofs.plan_model
pub mod Infos
pub mod Going
pub mod Leaving
pub mod Nothing
