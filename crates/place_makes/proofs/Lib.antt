pub use Rattle.made_trees.proofs as made_trees
pub use Rattle.found_places.proofs as found_places
pub mod Ranges
pub mod Joins
pub mod Keys
