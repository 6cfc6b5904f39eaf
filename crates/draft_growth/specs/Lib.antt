pub use Rattle.draft_bitmaps.specs as draft_bitmaps
pub use Rattle.draft_bitmaps.specs.draft_resized
pub use Rattle.draft_bitmaps.specs.record_streams
pub use Rattle.draft_bitmaps.specs.record_values
pub use Rattle.draft_bitmaps.specs.resized_streams
pub use Rattle.draft_bitmaps.specs.state_model
pub use Rattle.draft_bitmaps.specs.stream_runs
pub use Rattle.draft_numbers.specs as draft_numbers
pub use Rattle.draft_numbers.specs.draft_records
pub mod Faults
pub mod Clusters
pub mod Growing
pub mod Taking
pub mod Effects
