pub mod Having
pub mod Counting
pub mod Turning
pub mod Rooms
