pub use Rattle.record_writer.proofs as record_writer
pub use Rattle.stream_map.proofs as stream_map
pub use Rattle.stream_runs.proofs as stream_runs
pub mod Spelled
pub mod Kept
pub mod Read
pub mod Streams
pub mod Fits
