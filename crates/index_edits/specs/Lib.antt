pub mod Grown
pub mod Levels
pub mod Raised
pub mod Streams
