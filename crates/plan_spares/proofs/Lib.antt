pub use Rattle.state_blocks.proofs as state_blocks
pub mod Planned
