pub mod Asking
pub mod Commands
pub mod Faults
pub mod Lines
pub mod Paths
pub mod Scripts
pub mod Words
