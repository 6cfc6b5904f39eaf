pub use Rattle.draft_growth.specs as draft_growth
pub use Rattle.draft_growth.specs.draft_bitmaps
pub use Rattle.plan_edits.specs as plan_edits
pub use Rattle.plan_edits.specs.plan_growth
pub use Rattle.plan_edits.specs.plan_model
pub mod Grown
