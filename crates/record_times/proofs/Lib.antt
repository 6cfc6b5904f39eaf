pub use Rattle.plan_changes.proofs as plan_changes
pub use Rattle.plan_changes.proofs.draft_bits
pub use Rattle.plan_changes.proofs.draft_records
pub use Rattle.plan_changes.proofs.draft_resized
pub use Rattle.plan_changes.proofs.index_change
pub use Rattle.plan_changes.proofs.plan_edits
pub use Rattle.plan_changes.proofs.plan_growth
pub use Rattle.plan_changes.proofs.plan_informed
pub use Rattle.plan_changes.proofs.plan_model
pub use Rattle.plan_changes.proofs.plan_owners
pub use Rattle.plan_changes.proofs.plan_values
pub use Rattle.plan_changes.proofs.record_streams
pub use Rattle.plan_changes.proofs.record_values
pub use Rattle.plan_changes.proofs.record_writer
pub use Rattle.plan_changes.proofs.resized_streams
pub use Rattle.plan_changes.proofs.stream_laws
pub use Rattle.plan_changes.proofs.stream_map
pub use Rattle.plan_changes.proofs.stream_runs
pub use Rattle.plan_changes.proofs.tree_laws
mod Timed
mod Fitting
