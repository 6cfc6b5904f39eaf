pub use Rattle.tree_laws.proofs as tree_laws
pub mod Among
pub mod Rising
pub mod Finding
pub mod Owning
pub mod Holding
pub mod Climbing
