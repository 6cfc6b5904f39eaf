pub use Rattle.plan_spares.specs as plan_spares
pub use Rattle.plan_spares.specs.state_blocks
pub mod Keeping
