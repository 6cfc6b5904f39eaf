pub mod Behind
pub mod Next
pub mod Raised
pub mod First
pub mod Counted
pub mod Put
pub mod Steps
