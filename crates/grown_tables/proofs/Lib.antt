pub mod Counted
pub mod First
pub mod Full
pub mod Held
pub mod Growing
