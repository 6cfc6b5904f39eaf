pub use Rattle.draft_resized.proofs.plan_draft
pub use Rattle.draft_resized.proofs.space_model
pub use Rattle.draft_resized.proofs.stream_map
pub use Rattle.draft_resized.proofs.stream_runs
pub use Rattle.record_values.proofs.record_streams
pub mod Room
pub mod BitmapEffects
