pub use Rattle.data_plan.specs as data_plan
pub use Rattle.data_plan.specs.step_model
pub use Rattle.data_plan.specs.used_laws
pub mod Ids
pub mod Made
pub mod Laws
