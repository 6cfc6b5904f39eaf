pub use Rattle.plan_owners.proofs as plan_owners
pub mod Needing
