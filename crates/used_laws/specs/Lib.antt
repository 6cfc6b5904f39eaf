pub use Rattle.draft_records.specs as draft_records
pub use Rattle.draft_records.specs.plan_space
pub use Rattle.draft_records.specs.record_model
pub use Rattle.draft_records.specs.resized_streams
pub use Rattle.draft_records.specs.state_model
pub use Rattle.record_values.specs as record_values
pub use Rattle.record_values.specs.record_streams
pub use Rattle.step_model.specs as step_model
pub use Rattle.step_model.specs.disk_model
pub use Rattle.step_model.specs.file_tree
pub use Rattle.step_model.specs.plan_owners
pub use Rattle.step_model.specs.record_writer
pub use Rattle.step_model.specs.space_model
pub use Rattle.step_model.specs.stream_laws
pub use Rattle.step_model.specs.stream_runs
pub use Rattle.step_model.specs.tree_model
pub use Rattle.step_model.specs.volume_model
pub mod Laws
