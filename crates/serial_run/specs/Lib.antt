pub mod Volumes
pub mod Runs
