pub use Rattle.draft_growth.specs as draft_growth
pub use Rattle.draft_growth.specs.draft_bitmaps
pub mod Planned
