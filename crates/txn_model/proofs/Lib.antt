pub use Rattle.block_pool.proofs as block_pool
pub use Rattle.flush_policy.proofs as flush_policy
pub use Rattle.log_area.proofs as log_area
pub use Rattle.log_area.proofs.disk_model
