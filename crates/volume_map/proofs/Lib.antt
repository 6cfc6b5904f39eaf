pub use Rattle.stream_map.proofs as stream_map
pub use Rattle.volume_model.proofs.index_model
pub mod Steps
pub mod Numbered
pub mod Owners
pub mod Joins
pub mod ReadLists
pub mod Loaded
pub mod Heads
pub mod Fronts
pub mod Mapped
pub mod Firsts
