pub use Rattle.plan_owners.specs as plan_owners
pub use Rattle.plan_owners.specs.volume_state
pub mod Needing
pub mod Drafts
