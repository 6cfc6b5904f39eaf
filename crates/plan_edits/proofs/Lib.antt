pub use Rattle.draft_resized.proofs as draft_resized
pub use Rattle.draft_resized.proofs.draft_bits
pub use Rattle.draft_resized.proofs.draft_records
pub use Rattle.plan_values.proofs as plan_values
pub use Rattle.plan_values.proofs.index_change
pub use Rattle.plan_values.proofs.plan_bodies
pub use Rattle.plan_values.proofs.plan_growth
pub use Rattle.plan_values.proofs.plan_model
pub use Rattle.plan_values.proofs.plan_owners
pub use Rattle.plan_values.proofs.record_streams
pub use Rattle.plan_values.proofs.record_writer
pub use Rattle.plan_values.proofs.resized_streams
pub use Rattle.plan_values.proofs.space_model
pub use Rattle.plan_values.proofs.stream_laws
pub use Rattle.plan_values.proofs.stream_map
pub use Rattle.plan_values.proofs.stream_runs
pub use Rattle.plan_values.proofs.tree_laws
pub mod Reading
pub mod Putting
pub mod Editing
pub mod Bitmap
pub mod Moving
pub mod Recording
pub mod Sizing
