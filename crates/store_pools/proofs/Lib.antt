pub use Rattle.txn_model.proofs.block_pool
pub use Rattle.txn_model.proofs.disk_model
pub use Rattle.txn_model.proofs.log_area
pub mod Ends
pub mod Pools
pub mod Syncs
