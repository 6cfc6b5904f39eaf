pub use Rattle.crash_mounts.specs as crash_mounts
pub mod Stopped
