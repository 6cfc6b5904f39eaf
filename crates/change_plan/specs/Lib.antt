pub mod Faults
pub mod States
pub mod Plans
pub mod Drafting
pub mod Checking
pub mod Laws
