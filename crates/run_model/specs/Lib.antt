pub use Rattle.tree_model.specs as tree_model
pub mod Runs
pub mod Texts
pub mod Laws
pub mod Leaving
pub mod LeavingLaws
