pub use Rattle.draft_streams.proofs as draft_streams
pub mod Bitwise
pub mod BitEffects
