pub use Rattle.plan_changes.specs as plan_changes
pub use Rattle.plan_changes.specs.draft_bits
pub use Rattle.plan_changes.specs.draft_records
pub use Rattle.plan_changes.specs.draft_resized
pub use Rattle.plan_changes.specs.draft_runs
pub use Rattle.plan_changes.specs.draft_streams
pub use Rattle.plan_changes.specs.index_change
pub use Rattle.plan_changes.specs.index_model
pub use Rattle.plan_changes.specs.index_tree
pub use Rattle.plan_changes.specs.plan_draft
pub use Rattle.plan_changes.specs.plan_edits
pub use Rattle.plan_changes.specs.plan_growth
pub use Rattle.plan_changes.specs.plan_informed
pub use Rattle.plan_changes.specs.plan_model
pub use Rattle.plan_changes.specs.plan_owners
pub use Rattle.plan_changes.specs.plan_values
pub use Rattle.plan_changes.specs.record_streams
pub use Rattle.plan_changes.specs.record_values
pub use Rattle.plan_changes.specs.record_writer
pub use Rattle.plan_changes.specs.resized_streams
pub use Rattle.plan_changes.specs.space_model
pub use Rattle.plan_changes.specs.stream_laws
pub use Rattle.plan_changes.specs.stream_runs
pub use Rattle.plan_changes.specs.tree_laws
pub use Rattle.plan_changes.specs.tree_model
pub use Rattle.plan_changes.specs.volume_model
pub use Rattle.plan_changes.specs.volume_state
pub use Rattle.record_model.specs as record_model
pub use Rattle.state_model.specs as state_model
pub mod Times
pub mod Laws
