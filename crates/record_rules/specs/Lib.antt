pub use Rattle.state_model.specs as state_model
pub mod Counts
pub mod Links
pub mod Passing
pub mod Rises
pub mod Ways
