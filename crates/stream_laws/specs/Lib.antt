pub use Rattle.volume_model.specs as volume_model
pub mod Frames
pub mod Changes
pub mod Places
pub mod Records
pub mod Sharing
pub mod Owners
pub mod Replacing
pub mod Puts
pub mod Volumes
pub mod Rewrites
pub mod Tables
pub mod Leaving
pub mod Growth
pub mod Bitmaps
pub mod Weights
