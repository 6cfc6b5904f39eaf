pub use Rattle.fixup_record.specs as fixup_record
pub use Rattle.log_model.specs as log_model
pub use Rattle.log_model.specs.disk_model
pub use Rattle.sector_device.specs as sector_device
pub mod Logs
pub mod Geometry
pub mod Stores
pub mod Events
pub mod Runs
pub mod Recovery
pub mod Volumes
pub mod Rings
pub mod Rests
pub mod Laws
pub mod StoreVector
