pub use Rattle.block_pool.specs as block_pool
pub use Rattle.flush_policy.specs as flush_policy
pub use Rattle.log_area.specs as log_area
pub use Rattle.log_area.specs.disk_model
pub use Rattle.log_area.specs.fixup_record
pub use Rattle.log_area.specs.log_model
pub use Rattle.log_area.specs.log_page
pub use Rattle.log_area.specs.sector_device
pub mod Values
pub mod Pieces
pub mod Appending
pub mod Calls
pub mod Told
