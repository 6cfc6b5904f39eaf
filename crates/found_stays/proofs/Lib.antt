pub use Rattle.txn_core.proofs as txn_core
pub use Rattle.txn_core.proofs.area_laws
pub use Rattle.txn_core.proofs.log_area
pub use Rattle.txn_core.proofs.ring_laws
pub use Rattle.txn_core.proofs.txn_laws
pub mod Bearing
pub mod Writing
pub mod Turning
pub mod Lying
