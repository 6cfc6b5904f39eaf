pub use Rattle.map_change.proofs.stream_laws
pub mod Naming
pub mod Links
pub mod Alike
pub mod Kept
