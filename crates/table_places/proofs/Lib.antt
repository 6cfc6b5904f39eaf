pub mod Finding
pub mod Making
pub mod Quiet
pub mod Left
pub mod Growing
