pub mod Ordering
pub mod Shown
pub mod Small
pub mod LookUps
pub mod Ranges
pub mod Walks
