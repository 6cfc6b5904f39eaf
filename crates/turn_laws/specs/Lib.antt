pub use Rattle.txn_core.specs as txn_core
pub use Rattle.txn_core.specs.device_blocks
pub use Rattle.txn_core.specs.device_view
pub use Rattle.txn_core.specs.log_area
pub use Rattle.txn_core.specs.log_page
pub use Rattle.txn_core.specs.log_reading
pub use Rattle.txn_core.specs.ring_laws
pub use Rattle.txn_core.specs.store_claims
pub use Rattle.txn_core.specs.store_model
pub use Rattle.txn_core.specs.txn_laws
pub use Rattle.txn_core.specs.txn_log
pub use Rattle.txn_core.specs.txn_model
pub use Rattle.txn_core.specs.txn_state
pub mod Sparing
