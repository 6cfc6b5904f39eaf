pub use Rattle.disk_model.specs as disk_model
pub use Rattle.log_reading.specs.fixup_record
pub use Rattle.log_reading.specs.log_model
pub use Rattle.log_reading.specs.log_page
pub use Rattle.sector_device.specs as sector_device
pub mod Areas
pub mod Calls
