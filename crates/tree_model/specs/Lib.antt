pub use Rattle.file_tree.specs as file_tree
pub use Rattle.file_tree.specs.utf16_name
pub mod Walks
pub mod Needs
pub mod Refusals
pub mod Fronts
pub mod Effects
pub mod Steps
pub mod Worked
