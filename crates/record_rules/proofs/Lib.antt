pub mod Ascents
pub mod Climbs
pub mod Links
pub mod Lists
pub mod Once
pub mod Rises
pub mod Tallies
