pub use Rattle.volume_open.specs.volume_start
pub mod Runs
