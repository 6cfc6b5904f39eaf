pub use Rattle.written_values.proofs as written_values
pub use Rattle.written_values.proofs.draft_records
pub use Rattle.written_values.proofs.plan_changes
pub use Rattle.written_values.proofs.plan_model
pub use Rattle.written_values.proofs.plan_owners
pub use Rattle.written_values.proofs.record_writer
pub use Rattle.written_values.proofs.tree_laws
pub mod Holding
pub mod Counted
pub mod Kept
pub mod Going
pub mod Listing
pub mod Behind
