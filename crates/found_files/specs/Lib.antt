pub use Rattle.volume_map.specs as volume_map
pub use Rattle.written_made.specs.change_steps
pub use Rattle.written_made.specs.draft_records
pub use Rattle.written_made.specs.file_changes
pub use Rattle.written_made.specs.file_puts
pub use Rattle.written_made.specs.file_writes
pub use Rattle.written_made.specs.made_data
pub use Rattle.written_made.specs.plan_changes
pub use Rattle.written_made.specs.plan_owners
pub use Rattle.written_made.specs.record_streams
pub use Rattle.written_made.specs.step_model
pub use Rattle.written_made.specs.volume_state
pub mod Found
pub mod Parts
