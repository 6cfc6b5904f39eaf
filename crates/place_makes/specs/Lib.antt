pub use Rattle.made_trees.specs as made_trees
pub use Rattle.found_places.specs as found_places
pub use Rattle.index_grows.specs as index_grows
pub mod Faults
pub mod Placing
