pub use Rattle.format_blocks.specs as format_blocks
pub use Rattle.format_blocks.specs.volume_format
pub mod Volumes
pub mod Rules
