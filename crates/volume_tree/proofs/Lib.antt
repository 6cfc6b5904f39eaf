pub use Rattle.volume_map.proofs as volume_map
pub use Rattle.volume_map.proofs.index_model
pub mod Totals
pub mod Nodes
