pub mod Segments
pub mod Looked
pub mod Kept
