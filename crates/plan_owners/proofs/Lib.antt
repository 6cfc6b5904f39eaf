pub use Rattle.tree_laws.proofs as tree_laws
pub use Rattle.tree_laws.proofs.stream_laws
pub mod Standing
pub mod Outside
pub mod Unnamed
pub mod ByKind
pub mod Agreed
