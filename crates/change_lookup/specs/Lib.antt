pub use Rattle.tree_lookup.specs as tree_lookup
pub mod Counts
pub mod Comes
