pub mod Passing
pub mod Turning
pub mod Drained
pub mod Ended
pub mod Clean
pub mod Whole
