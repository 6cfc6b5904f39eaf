pub use Rattle.used_laws.proofs as used_laws
pub use Rattle.used_laws.proofs.draft_records
pub use Rattle.used_laws.proofs.plan_model
pub use Rattle.used_laws.proofs.plan_owners
pub use Rattle.used_laws.proofs.record_streams
pub use Rattle.used_laws.proofs.record_values
pub use Rattle.used_laws.proofs.record_writer
pub use Rattle.used_laws.proofs.step_model
pub use Rattle.used_laws.proofs.stream_laws
pub mod Cases
pub mod Taking
pub mod Making
