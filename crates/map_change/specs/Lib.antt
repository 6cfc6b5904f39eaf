pub use Rattle.volume_map.specs as volume_map
pub use Rattle.volume_map.specs.file_tree
pub use Rattle.volume_map.specs.record_model
pub use Rattle.volume_map.specs.volume_model
pub mod Plain
pub mod Parts
pub mod Touching
pub mod Applying
pub mod Reading
pub mod Marking
pub mod Preparing
