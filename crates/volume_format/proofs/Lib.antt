pub use Rattle.record_writer.proofs as record_writer
pub mod Placing
pub mod FittingAttributes
pub mod FittingStreams
pub mod FittingRecords
pub mod FittingNode
pub mod Pieces
pub mod Stopping
pub mod Calls
pub mod Crashing
