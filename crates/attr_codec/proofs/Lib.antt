pub mod Headers
pub mod Whole
pub mod Pushed
pub mod Spelled
