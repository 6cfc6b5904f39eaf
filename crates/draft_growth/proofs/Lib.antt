pub use Rattle.draft_bitmaps.proofs as draft_bitmaps
pub use Rattle.draft_bitmaps.proofs.record_streams
pub use Rattle.draft_bitmaps.proofs.stream_runs
pub mod Turns
pub mod Chosen
pub mod Joining
pub mod Empty
pub mod Tables
pub mod GrownEffects
pub mod Lengths
pub mod Standing
pub mod Space
pub mod Fulls
