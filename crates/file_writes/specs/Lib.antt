pub use Rattle.file_puts.specs as file_puts
pub mod Faults
pub mod Writing
