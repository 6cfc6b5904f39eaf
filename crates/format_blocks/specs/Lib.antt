pub use Rattle.volume_format.specs as volume_format
pub mod Regions
pub mod Blocks
