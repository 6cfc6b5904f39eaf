pub mod Ways
pub mod Replying
