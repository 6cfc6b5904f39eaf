pub use Rattle.log_recovery.proofs.device_view
pub use Rattle.volume_map.proofs as volume_map
pub mod Alike
pub mod Disks
pub mod Lying
pub mod Steps
pub mod Stretches
pub mod ToWrite
