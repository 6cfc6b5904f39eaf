pub use Rattle.log_area.specs as log_area
pub use Rattle.log_area.specs.disk_model
pub use Rattle.log_area.specs.sector_device
pub use Rattle.ring_laws.specs as ring_laws
pub use Rattle.ring_laws.specs.block_view
pub use Rattle.ring_laws.specs.fixup_record
pub use Rattle.ring_laws.specs.log_laws
pub use Rattle.ring_laws.specs.log_model
pub use Rattle.ring_laws.specs.log_page
pub use Rattle.ring_laws.specs.log_reading
pub mod Standing
pub mod Laws
