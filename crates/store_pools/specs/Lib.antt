pub use Rattle.txn_model.specs as txn_model
pub use Rattle.txn_model.specs.block_pool
pub use Rattle.txn_model.specs.disk_model
pub use Rattle.txn_model.specs.fixup_record
pub use Rattle.txn_model.specs.log_area
pub use Rattle.txn_model.specs.log_model
pub use Rattle.txn_model.specs.log_page
pub use Rattle.txn_model.specs.sector_device
pub mod Pools
