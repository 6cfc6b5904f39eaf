pub use Rattle.device_view.proofs as device_view
pub mod Walking
pub mod Saying
pub mod Grouping
pub mod Marking
pub mod Steps
pub mod Clusters
pub mod Ending
pub mod Placing
pub mod Wholes
pub mod Stretching
pub mod Refusing
