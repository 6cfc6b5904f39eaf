pub mod Laps
pub mod Trying
mod Roomed
mod Looked
