pub mod Bitmaps
pub mod Streams
