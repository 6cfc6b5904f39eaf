pub use Rattle.made_data.specs as made_data
pub use Rattle.made_data.specs.data_plan
pub use Rattle.written_values.specs.draft_bits
pub use Rattle.written_values.specs.draft_records
pub use Rattle.written_values.specs.draft_resized
pub use Rattle.written_values.specs.draft_runs
pub use Rattle.written_values.specs.draft_streams
pub use Rattle.written_values.specs.file_puts
pub use Rattle.written_values.specs.plan_edits
pub use Rattle.written_values.specs.plan_model
pub use Rattle.written_values.specs.plan_owners
pub use Rattle.written_values.specs.record_writer
pub use Rattle.written_values.specs.resized_streams
pub use Rattle.written_values.specs.step_model
pub use Rattle.written_values.specs.volume_state
pub mod Held
pub mod Writes
pub mod Lists
