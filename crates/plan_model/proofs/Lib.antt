pub use Rattle.index_change.proofs as index_change
pub use Rattle.index_change.proofs.index_model
pub use Rattle.index_change.proofs.index_plan
pub use Rattle.index_change.proofs.record_model
pub use Rattle.index_change.proofs.stream_map
pub use Rattle.plan_bodies.proofs as plan_bodies
pub use Rattle.plan_owners.proofs as plan_owners
pub use Rattle.plan_owners.proofs.stream_laws
pub use Rattle.plan_owners.proofs.tree_laws
pub mod Stepping
pub mod Rewriting
pub mod OneRecord
pub mod Informing
pub mod Drafting
pub mod Quiet
pub mod Making
pub mod Indexing
pub mod Parting
pub mod TableSteps
pub mod PlannedIndexing
