pub use Rattle.draft_records.proofs as draft_records
pub use Rattle.record_values.proofs as record_values
pub use Rattle.record_values.proofs.record_streams
pub use Rattle.step_model.proofs as step_model
pub use Rattle.step_model.proofs.plan_model
pub use Rattle.step_model.proofs.plan_owners
pub use Rattle.step_model.proofs.record_writer
pub use Rattle.step_model.proofs.stream_laws
pub mod Lengths
pub mod Beside
pub mod Staying
