pub use Rattle.record_streams.proofs as record_streams
pub mod Valued
