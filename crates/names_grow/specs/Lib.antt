pub mod Grown
pub mod Trying
