pub use Rattle.stream_laws.proofs as stream_laws
pub mod Leasts
pub mod Sorting
pub mod Placing
pub mod Streaming
pub mod Holding
pub mod Listing
