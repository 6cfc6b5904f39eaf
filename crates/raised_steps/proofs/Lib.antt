pub mod Stepping
pub mod Rising
pub mod Taking
