pub mod Rising
pub mod Stepping
