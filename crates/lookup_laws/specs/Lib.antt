pub mod Names
pub mod Directories
pub mod Files
