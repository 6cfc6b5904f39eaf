pub use Rattle.txn_core.specs as txn_core
pub use Rattle.txn_core.specs.area_laws
pub use Rattle.txn_core.specs.device_blocks
pub use Rattle.txn_core.specs.log_area
pub use Rattle.txn_core.specs.ring_laws
pub use Rattle.txn_core.specs.txn_laws
pub use Rattle.txn_core.specs.txn_model
pub use Rattle.txn_core.specs.txn_state
pub mod Found
pub mod Laws
