pub use Rattle.txn_log.specs as txn_log
pub use Rattle.txn_log.specs.store_pools
pub mod States
pub mod Turning
