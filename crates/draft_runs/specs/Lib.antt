pub use Rattle.draft_bits.specs as draft_bits
pub use Rattle.draft_bits.specs.draft_streams
pub use Rattle.stream_runs.specs as stream_runs
pub mod Clusters
pub mod Effects
