pub use Rattle.draft_records.specs as draft_records
pub use Rattle.draft_records.specs.plan_draft
pub use Rattle.draft_records.specs.plan_space
pub use Rattle.draft_records.specs.record_writer
pub use Rattle.draft_records.specs.resized_streams
pub use Rattle.draft_records.specs.space_model
pub use Rattle.draft_records.specs.state_model
pub use Rattle.draft_runs.specs as draft_runs
pub use Rattle.draft_runs.specs.draft_bits
pub use Rattle.draft_runs.specs.draft_streams
pub use Rattle.draft_runs.specs.stream_runs
pub mod Resized
pub mod Moved
pub mod Effects
