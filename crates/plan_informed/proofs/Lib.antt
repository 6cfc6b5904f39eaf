pub use Rattle.plan_edits.proofs as plan_edits
pub use Rattle.plan_edits.proofs.draft_bits
pub use Rattle.plan_edits.proofs.draft_records
pub use Rattle.plan_edits.proofs.draft_resized
pub use Rattle.plan_edits.proofs.index_change
pub use Rattle.plan_edits.proofs.plan_bodies
pub use Rattle.plan_edits.proofs.plan_growth
pub use Rattle.plan_edits.proofs.plan_model
pub use Rattle.plan_edits.proofs.plan_owners
pub use Rattle.plan_edits.proofs.plan_values
pub use Rattle.plan_edits.proofs.record_writer
pub use Rattle.plan_edits.proofs.resized_streams
pub use Rattle.plan_edits.proofs.space_model
pub use Rattle.plan_edits.proofs.stream_laws
pub use Rattle.plan_edits.proofs.stream_map
pub use Rattle.plan_edits.proofs.stream_runs
pub use Rattle.plan_edits.proofs.tree_laws
pub use Rattle.record_values.proofs as record_values
pub use Rattle.record_values.proofs.record_streams
pub mod Valuing
pub mod Informed
