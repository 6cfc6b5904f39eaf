pub use Rattle.made_files.specs as made_files
pub use Rattle.made_files.specs.file_makes
pub use Rattle.made_files.specs.new_files
pub use Rattle.made_files.specs.record_times
pub use Rattle.written_values.specs.change_steps
pub use Rattle.written_values.specs.file_puts
pub use Rattle.written_values.specs.plan_model
pub use Rattle.written_values.specs.step_model
pub mod Created
pub mod Left
pub mod Grown
pub mod Behind
