pub use Rattle.store_pools.proofs as store_pools
pub use Rattle.store_pools.proofs.block_pool
pub use Rattle.store_pools.proofs.disk_model
pub mod Counts
pub mod Cuts
pub mod Enough
pub mod Fitting
pub mod Rooms
pub mod Sharing
pub mod Steps
pub mod Told
