pub mod Errors
pub mod Volumes
pub mod Breaches
pub mod Places
