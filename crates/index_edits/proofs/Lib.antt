pub mod Fresh
pub mod Laid
pub mod Levels
pub mod Grown
pub mod Raised
pub mod Streams
