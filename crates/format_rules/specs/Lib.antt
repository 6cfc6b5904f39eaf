pub use Rattle.format_files.specs as format_files
pub use Rattle.format_files.specs.format_blocks
pub use Rattle.format_files.specs.volume_format
pub mod Rules
pub mod Trees
