pub use Rattle.plan_model.specs as plan_model
pub use Rattle.plan_model.specs.plan_owners
pub use Rattle.state_blocks.specs as state_blocks
pub mod Plans
