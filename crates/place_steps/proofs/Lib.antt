pub use Rattle.place_makes.proofs as place_makes
pub use Rattle.place_makes.proofs.made_trees
pub use Rattle.written_clusters.proofs as written_clusters
pub mod Finding
pub mod Quiet
pub mod Behind
pub mod Growing
