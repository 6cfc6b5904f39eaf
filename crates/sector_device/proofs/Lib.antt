pub mod SectorParts
pub mod KeptCalls
pub mod Images
pub mod Left
pub mod Keeping
pub mod Leaving
