pub use Rattle.format_rules.proofs.format_blocks
pub use Rattle.format_rules.proofs.format_files
pub mod EmptyLog
pub mod NewLog
pub mod Opening
