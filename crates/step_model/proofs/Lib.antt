pub use Rattle.plan_model.proofs as plan_model
pub use Rattle.plan_model.proofs.plan_owners
pub use Rattle.plan_model.proofs.stream_laws
pub use Rattle.record_writer.proofs as record_writer
pub use Rattle.record_writer.proofs.disk_model
pub mod Placed
pub mod UsedLengths
pub mod NeverFull
pub mod Rows
pub mod Listing
pub mod Stepping
pub mod Leaving
pub mod Spreading
pub mod Planning
