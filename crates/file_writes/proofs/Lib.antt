pub mod Rooms
pub mod Lengths
pub mod Joins
pub mod Cases
