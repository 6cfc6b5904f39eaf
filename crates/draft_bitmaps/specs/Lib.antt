pub use Rattle.draft_resized.specs as draft_resized
pub use Rattle.draft_resized.specs.draft_streams
pub use Rattle.draft_resized.specs.plan_draft
pub use Rattle.draft_resized.specs.plan_space
pub use Rattle.draft_resized.specs.resized_streams
pub use Rattle.draft_resized.specs.space_model
pub use Rattle.draft_resized.specs.state_model
pub use Rattle.draft_resized.specs.stream_runs
pub use Rattle.record_values.specs as record_values
pub use Rattle.record_values.specs.record_streams
pub mod Bitmaps
pub mod Effects
