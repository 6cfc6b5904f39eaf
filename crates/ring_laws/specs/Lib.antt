pub use Rattle.log_laws.specs as log_laws
pub use Rattle.log_laws.specs.log_page
pub use Rattle.log_reading.specs as log_reading
pub use Rattle.log_reading.specs.block_view
pub use Rattle.store_model.specs as store_model
pub use Rattle.store_model.specs.fixup_record
pub use Rattle.store_model.specs.log_model
pub mod Numbers
pub mod PageBytes
pub mod RingPages
pub mod RestartPages
pub mod Laws
pub mod StoreLogs
pub mod StoreDisks
pub mod DeviceImages
