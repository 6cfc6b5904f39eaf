pub use Rattle.draft_growth.proofs.draft_bitmaps
pub use Rattle.plan_edits.proofs as plan_edits
pub use Rattle.plan_edits.proofs.plan_growth
pub use Rattle.plan_edits.proofs.plan_model
pub use Rattle.plan_edits.proofs.plan_values
pub use Rattle.plan_table.proofs as plan_table
pub mod Again
pub mod Taken
pub mod Ways
pub mod Steps
pub mod Chosen
pub mod Numbers
pub mod Spelled
pub mod Edit
