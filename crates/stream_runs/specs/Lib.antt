pub use Rattle.volume_model.specs as volume_model
pub mod Runs
pub mod Laws
