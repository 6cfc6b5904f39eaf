pub use Rattle.data_plan.proofs as data_plan
pub use Rattle.data_plan.proofs.used_laws
pub mod Counting
pub mod Standing
pub mod Having
