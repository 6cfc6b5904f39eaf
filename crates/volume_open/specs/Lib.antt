pub use Rattle.volume_core.specs as volume_core
pub use Rattle.volume_start.specs as volume_start
pub mod Opens
