pub use Rattle.state_store.proofs as state_store
pub use Rattle.state_store.proofs.ring_laws
pub use Rattle.state_store.proofs.stream_laws
pub use Rattle.state_store.proofs.txn_laws
pub use Rattle.state_store.proofs.txn_state
pub mod Staying
pub mod Recovering
pub mod Putting
pub mod Starting
pub mod Leading
