pub use Rattle.file_tree.specs as file_tree
pub use Rattle.file_tree.specs.utf16_name
pub use Rattle.tree_model.specs as tree_model
pub mod Asked
pub mod Answered
