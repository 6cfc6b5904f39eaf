pub use Rattle.index_tree.proofs as index_tree
pub mod Links
pub mod Numbers
