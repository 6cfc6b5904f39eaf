pub use Rattle.log_recovery.specs as log_recovery
pub use Rattle.txn_core.specs as txn_core
pub use Rattle.txn_core.specs.area_laws
pub use Rattle.txn_core.specs.device_blocks
pub use Rattle.txn_core.specs.txn_laws
pub use Rattle.txn_core.specs.txn_model
pub mod Contents
pub mod Images
pub mod Calls
pub mod Laws
pub mod Mountable
pub mod Puts
pub mod Faults
pub mod Plans
pub mod Mounts
