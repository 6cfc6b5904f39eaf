pub mod Frames
pub mod Rows
pub mod Timing
pub mod Making
pub mod Stepping
pub mod Refusing
pub mod Rising
