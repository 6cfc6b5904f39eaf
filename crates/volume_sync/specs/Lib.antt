pub use Rattle.txn_laws.specs as txn_laws
pub use Rattle.txn_model.specs as txn_model
pub use Rattle.volume_core.specs as volume_core
pub mod Runs
pub mod Syncs
pub mod Rooms
