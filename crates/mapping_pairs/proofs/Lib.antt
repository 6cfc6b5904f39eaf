pub mod Steps
pub mod Widths
pub mod Pushing
