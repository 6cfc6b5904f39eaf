mod Blanks
pub mod Bounds
mod States
pub mod Carrying
mod Steps
