pub use Rattle.store_pools.specs as store_pools
pub use Rattle.store_pools.specs.block_pool
pub use Rattle.store_pools.specs.disk_model
pub use Rattle.store_pools.specs.fixup_record
pub use Rattle.store_pools.specs.log_area
pub use Rattle.store_pools.specs.log_model
pub use Rattle.store_pools.specs.log_page
pub use Rattle.store_pools.specs.sector_device
pub use Rattle.store_pools.specs.txn_model
pub mod Counts
pub mod Counting
pub mod Laws
