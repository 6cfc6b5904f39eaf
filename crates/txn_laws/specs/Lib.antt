pub use Rattle.area_laws.specs as area_laws
pub use Rattle.area_laws.specs.block_view
pub use Rattle.area_laws.specs.log_laws
pub use Rattle.area_laws.specs.log_model
pub use Rattle.area_laws.specs.log_page
pub use Rattle.area_laws.specs.log_reading
pub use Rattle.area_laws.specs.ring_laws
pub use Rattle.area_laws.specs.sector_device
pub use Rattle.store_claims.specs as store_claims
pub use Rattle.store_claims.specs.store_model
pub use Rattle.txn_model.specs as txn_model
pub use Rattle.txn_model.specs.block_pool
pub use Rattle.txn_model.specs.flush_policy
pub mod Standing
pub mod Windows
pub mod Following
pub mod Laws
pub mod Mounting
