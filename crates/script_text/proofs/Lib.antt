pub mod Parts
pub mod Spelled
pub mod Words
pub mod LineSteps
