pub use Rattle.format_blocks.proofs as format_blocks
pub mod Streams
pub mod Loading
pub mod Tabling
pub mod Linking
pub mod Bytes
pub mod Bits
pub mod Owning
