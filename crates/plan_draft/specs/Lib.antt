pub use Rattle.block_view.specs as block_view
pub use Rattle.plan_bodies.specs as plan_bodies
pub mod Touching
pub mod Drafts
pub mod Sizes
pub mod Faults
pub mod Finishing
pub mod Writing
pub mod Same
