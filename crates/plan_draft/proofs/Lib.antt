pub use Rattle.plan_bodies.proofs as plan_bodies
pub mod Placing
pub mod Touching
pub mod Puts
pub mod Ranges
pub mod Finished
pub mod Parts
pub mod Same
