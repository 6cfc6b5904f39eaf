pub mod Putting
pub mod Naming
