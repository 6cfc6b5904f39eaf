pub use Rattle.format_rules.specs.format_blocks
pub use Rattle.format_rules.specs.format_files
pub use Rattle.image_read.specs.image_open
pub mod Images
