pub use Rattle.draft_records.proofs as draft_records
pub use Rattle.draft_records.proofs.plan_draft
pub use Rattle.draft_records.proofs.record_writer
pub use Rattle.draft_records.proofs.space_model
pub use Rattle.draft_records.proofs.stream_map
pub use Rattle.draft_runs.proofs.draft_bits
pub use Rattle.draft_runs.proofs.draft_streams
pub use Rattle.draft_runs.proofs.stream_runs
pub mod Fronts
pub mod FileEffects
pub mod MovedEffects
