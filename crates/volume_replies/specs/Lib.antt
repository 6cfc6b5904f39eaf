pub use Rattle.log_area.specs as log_area
pub use Rattle.volume_sync.specs as volume_sync
pub use Rattle.volume_sync.specs.txn_laws
pub use Rattle.volume_sync.specs.txn_model
pub use Rattle.volume_sync.specs.volume_core
pub mod Replies
