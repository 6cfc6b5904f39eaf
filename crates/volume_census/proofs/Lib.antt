pub use Rattle.volume_lookup.proofs as volume_lookup
pub mod Sparing
pub mod Counting
