pub mod Bits
pub mod Empty
pub mod Joining
