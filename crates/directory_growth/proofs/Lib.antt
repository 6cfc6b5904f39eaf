pub mod Placing
pub mod Coming
pub mod Step
pub mod Answering
pub mod Room
