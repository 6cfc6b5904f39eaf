pub use Rattle.device_view.specs as device_view
pub use Rattle.disk_model.specs as disk_model
pub use Rattle.fixup_record.specs as fixup_record
pub use Rattle.log_area.specs as log_area
pub mod Words
pub mod Calls
pub mod Pieces
pub mod Laws
