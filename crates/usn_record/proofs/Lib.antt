pub mod Judged
pub mod Chained
pub mod Walked
pub mod Appended
pub mod Ending
