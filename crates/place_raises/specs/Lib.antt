pub mod Faults
pub mod Raising
