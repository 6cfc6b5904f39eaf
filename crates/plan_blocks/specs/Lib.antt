pub use Rattle.plan_edits.specs as plan_edits
pub use Rattle.plan_edits.specs.draft_resized
pub use Rattle.plan_edits.specs.plan_model
pub mod Blocks
pub mod Levels
pub mod Written
pub mod Drafted
pub mod Rooted
