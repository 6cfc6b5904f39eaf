pub use Rattle.device_view.specs as device_view
pub use Rattle.log_reading.specs as log_reading
pub use Rattle.log_reading.specs.log_page
pub mod Blocks
pub mod Recovering
pub mod Finding
pub mod Sizes
pub mod Places
pub mod Groups
pub mod Shadows
pub mod LogStates
pub mod Borrowing
pub mod Own
pub mod Writing
