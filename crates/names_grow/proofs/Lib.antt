pub mod Lists
pub mod Links
pub mod Changes
pub mod More
pub mod Parts
pub mod Told
pub mod Telling
