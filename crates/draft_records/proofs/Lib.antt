pub use Rattle.plan_draft.proofs as plan_draft
pub use Rattle.plan_draft.proofs.plan_bodies
pub use Rattle.record_model.proofs as record_model
pub use Rattle.resized_streams.proofs.record_writer
pub use Rattle.resized_streams.proofs.space_model
pub use Rattle.resized_streams.proofs.stream_map
pub mod Written
pub mod Spelled
pub mod TableReads
pub mod Steps
