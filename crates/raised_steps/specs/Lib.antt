pub mod Steps
pub mod Rises
pub mod Takes
