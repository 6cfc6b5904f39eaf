pub use Rattle.format_files.proofs as format_files
pub use Rattle.format_files.proofs.format_blocks
pub mod Keeping
pub mod Listing
pub mod Ordering
pub mod Indexing
pub mod Nodes
pub mod Checking
