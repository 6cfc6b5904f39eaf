pub use Rattle.index_tree.specs as index_tree
pub mod Errors
pub mod Placed
pub mod Answered
pub mod Loaded
