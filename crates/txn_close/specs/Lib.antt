pub mod Rests
pub mod Passing
pub mod Ends
