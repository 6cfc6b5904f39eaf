pub use Rattle.fixup_record.proofs as fixup_record
pub use Rattle.fixup_record.proofs.disk_model
pub use Rattle.log_model.proofs as log_model
pub use Rattle.sector_device.proofs as sector_device
pub mod Told
pub mod Lost
pub mod Window
pub mod Change
pub mod Pieces
pub mod Disks
pub mod Ends
pub mod Stands
pub mod Shaded
pub mod Sound
pub mod Main
pub mod Runs
pub mod Recovery
pub mod Known
pub mod Rings
pub mod Volumes
pub mod Rests
pub mod Images
pub mod Refinement
pub mod Devices
pub mod Writes
pub mod Moving
pub mod Stopping
