pub mod Topped
pub mod Refused
