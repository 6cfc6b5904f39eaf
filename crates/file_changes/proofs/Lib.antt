pub use Rattle.written_clusters.proofs as written_clusters
pub use Rattle.written_clusters.proofs.change_steps
pub use Rattle.written_clusters.proofs.draft_records
pub use Rattle.written_clusters.proofs.draft_resized
pub use Rattle.written_clusters.proofs.plan_changes
pub use Rattle.written_clusters.proofs.plan_growth
pub use Rattle.written_clusters.proofs.plan_informed
pub use Rattle.written_clusters.proofs.plan_model
pub use Rattle.written_clusters.proofs.plan_owners
pub use Rattle.written_clusters.proofs.plan_values
pub use Rattle.written_clusters.proofs.record_streams
pub use Rattle.written_clusters.proofs.resized_streams
pub use Rattle.written_clusters.proofs.step_model
pub use Rattle.written_clusters.proofs.stream_laws
pub use Rattle.written_clusters.proofs.stream_map
pub use Rattle.written_clusters.proofs.tree_laws
pub use Rattle.written_clusters.proofs.used_laws
pub use Rattle.written_clusters.proofs.written_values
mod Joined
mod Stepping
pub mod Writing
mod Calling
mod Giving
