pub use Rattle.plan_growth.proofs as plan_growth
pub use Rattle.plan_growth.proofs.index_change
pub use Rattle.plan_growth.proofs.plan_model
pub use Rattle.plan_growth.proofs.plan_owners
pub mod Following
pub mod Counting
pub mod Lying
pub mod Few
