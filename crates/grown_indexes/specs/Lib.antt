pub mod First
pub mod Next
pub mod Raised
pub mod Counted
pub mod Put
pub mod Steps
