pub mod Passing
pub mod Tables
pub mod Spelling
