pub use Rattle.file_changes.proofs.change_steps
pub use Rattle.file_changes.proofs.plan_growth
pub use Rattle.file_changes.proofs.plan_model
pub use Rattle.file_changes.proofs.plan_owners
pub use Rattle.file_changes.proofs.record_streams
pub use Rattle.file_changes.proofs.resized_streams
pub use Rattle.file_changes.proofs.written_clusters
pub use Rattle.file_changes.proofs.written_values
pub use Rattle.made_data.proofs as made_data
pub use Rattle.state_files.proofs.data_plan
pub use Rattle.state_files.proofs.state_streams
mod Alike
mod Joining
mod Making
mod Rebasing
mod Doing
mod Stepping
mod Calling
mod Readying
