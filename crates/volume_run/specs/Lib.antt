pub use Rattle.volume_mount.specs as volume_mount
pub use Rattle.volume_mount.specs.image_open
pub use Rattle.volume_mount.specs.image_read
pub mod Prints
