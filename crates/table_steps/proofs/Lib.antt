pub use Rattle.made_trees.proofs as made_trees
pub mod Growing
pub mod Full
pub mod Refused
