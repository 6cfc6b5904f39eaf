pub mod Spelling
pub mod Listing
pub mod Marking
pub mod Taking
