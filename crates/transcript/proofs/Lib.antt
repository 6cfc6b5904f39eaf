pub mod Lines
pub mod OneOrder
