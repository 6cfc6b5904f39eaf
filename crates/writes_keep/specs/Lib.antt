pub use Rattle.names_stay.specs as names_stay
pub use Rattle.names_stay.specs.data_plan
pub use Rattle.names_stay.specs.file_puts
pub use Rattle.names_stay.specs.made_data
pub use Rattle.names_stay.specs.plan_edits
pub use Rattle.names_stay.specs.step_model
pub use Rattle.plans_keep.specs as plans_keep
pub mod Writes
