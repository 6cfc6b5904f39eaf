pub use Rattle.txn_core.proofs as txn_core
pub use Rattle.txn_core.proofs.device_view
pub use Rattle.txn_core.proofs.ring_laws
pub use Rattle.txn_core.proofs.store_model
pub use Rattle.txn_core.proofs.txn_laws
pub use Rattle.txn_core.proofs.txn_log
pub use Rattle.txn_core.proofs.txn_state
pub mod Falling
pub mod Framing
pub mod Sparing
