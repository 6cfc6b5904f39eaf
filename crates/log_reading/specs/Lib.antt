pub use Rattle.block_view.specs as block_view
pub use Rattle.disk_model.specs as disk_model
pub use Rattle.log_page.specs as log_page
pub use Rattle.log_page.specs.fixup_record
pub use Rattle.log_page.specs.log_model
pub mod Views
pub mod LogPages
pub mod Fronts
pub mod Live
pub mod Laps
pub mod Rings
pub mod Rows
