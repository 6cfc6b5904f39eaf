pub use Rattle.image_open.specs as image_open
pub use Rattle.image_open.specs.device_view
pub use Rattle.image_open.specs.log_page
pub use Rattle.image_open.specs.log_reading
pub use Rattle.image_open.specs.volume_map
pub use Rattle.volume_check.specs.usn_journal
pub mod Errors
pub mod Scans
pub mod Checks
pub mod States
pub mod Records
