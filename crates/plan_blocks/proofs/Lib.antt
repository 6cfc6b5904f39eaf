pub use Rattle.plan_edits.proofs as plan_edits
pub use Rattle.plan_edits.proofs.draft_resized
pub use Rattle.plan_edits.proofs.plan_model
pub mod Beside
pub mod Placing
pub mod Behind
pub mod Rooted
pub mod Raising
pub mod Enlarging
pub mod Levels
pub mod Making
pub mod Roots
pub mod Handing
