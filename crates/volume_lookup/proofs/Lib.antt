pub use Rattle.lookup_laws.proofs as lookup_laws
pub use Rattle.volume_tree.proofs.volume_map
pub mod Asking
pub mod Seeking
pub mod Giving
pub mod Fronting
