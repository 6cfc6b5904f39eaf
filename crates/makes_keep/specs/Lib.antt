pub mod Makes
pub mod Naming
pub mod Growing
pub mod Welcoming
