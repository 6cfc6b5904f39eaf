pub use Rattle.file_makes.specs as file_makes
pub use Rattle.file_makes.specs.index_change
pub use Rattle.file_makes.specs.new_files
pub use Rattle.file_makes.specs.plan_growth
pub use Rattle.file_makes.specs.plan_values
pub use Rattle.file_makes.specs.record_times
pub mod Made
