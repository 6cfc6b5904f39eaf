pub use Rattle.written_made.proofs.change_steps
pub use Rattle.written_made.proofs.plan_model
pub use Rattle.written_made.proofs.written_clusters
pub use Rattle.written_made.proofs.written_values
mod Few
mod Beside
mod Having
