pub use Rattle.plan_growth.proofs as plan_growth
pub use Rattle.plan_growth.proofs.index_change
pub use Rattle.plan_growth.proofs.plan_bodies
pub use Rattle.plan_growth.proofs.plan_model
pub use Rattle.plan_growth.proofs.plan_owners
pub use Rattle.plan_growth.proofs.record_model
pub use Rattle.plan_growth.proofs.record_streams
pub use Rattle.plan_growth.proofs.record_writer
pub use Rattle.plan_growth.proofs.resized_streams
pub use Rattle.plan_growth.proofs.space_model
pub use Rattle.plan_growth.proofs.stream_laws
pub use Rattle.plan_growth.proofs.stream_map
pub use Rattle.plan_growth.proofs.stream_runs
pub use Rattle.plan_growth.proofs.tree_laws
pub mod Staying
pub mod Valued
pub mod Made
