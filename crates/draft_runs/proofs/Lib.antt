pub use Rattle.draft_bits.proofs as draft_bits
pub use Rattle.draft_bits.proofs.draft_streams
pub use Rattle.stream_runs.proofs as stream_runs
pub mod Steps
pub mod RunEffects
