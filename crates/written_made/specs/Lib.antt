pub use Rattle.file_changes.specs as file_changes
pub use Rattle.file_changes.specs.change_steps
pub use Rattle.file_changes.specs.draft_records
pub use Rattle.file_changes.specs.file_puts
pub use Rattle.file_changes.specs.file_writes
pub use Rattle.file_changes.specs.plan_changes
pub use Rattle.file_changes.specs.plan_growth
pub use Rattle.file_changes.specs.plan_owners
pub use Rattle.file_changes.specs.record_streams
pub use Rattle.file_changes.specs.step_model
pub use Rattle.file_changes.specs.volume_state
pub use Rattle.made_data.specs as made_data
pub use Rattle.made_data.specs.data_plan
pub use Rattle.state_files.specs as state_files
pub use Rattle.state_files.specs.state_streams
pub mod Made
pub mod Steps
pub mod Ready
