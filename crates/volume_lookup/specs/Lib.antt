pub use Rattle.lookup_laws.specs as lookup_laws
pub use Rattle.tree_lookup.specs as tree_lookup
pub use Rattle.volume_tree.specs as volume_tree
pub use Rattle.volume_tree.specs.volume_map
pub use Rattle.volume_tree.specs.volume_state
pub mod Found
pub mod Answers
pub mod Known
pub mod Fronts
