pub use Rattle.plan_draft.proofs as plan_draft
pub use Rattle.plan_draft.proofs.plan_bodies
pub mod Effecting
pub mod Steps
