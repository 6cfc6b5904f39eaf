pub mod Counting
pub mod Widening
pub mod Fitting
pub mod Rising
pub mod Raising
