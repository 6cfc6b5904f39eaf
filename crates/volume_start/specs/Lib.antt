pub use Rattle.device_view.specs as device_view
pub use Rattle.file_puts.specs as file_puts
pub mod Faults
pub mod Fitting
pub mod Streams
pub mod Plans
pub mod Starts
