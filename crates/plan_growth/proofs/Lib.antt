pub use Rattle.plan_model.proofs as plan_model
pub use Rattle.plan_model.proofs.index_change
pub use Rattle.plan_model.proofs.plan_bodies
pub use Rattle.plan_model.proofs.plan_owners
pub use Rattle.plan_model.proofs.record_model
pub use Rattle.plan_model.proofs.stream_laws
pub use Rattle.plan_model.proofs.stream_map
pub use Rattle.plan_model.proofs.tree_laws
pub use Rattle.resized_streams.proofs as resized_streams
pub use Rattle.resized_streams.proofs.record_streams
pub use Rattle.resized_streams.proofs.record_writer
pub use Rattle.resized_streams.proofs.space_model
pub use Rattle.resized_streams.proofs.stream_runs
pub mod Runs
pub mod Placed
pub mod Written
pub mod Alike
pub mod Ruled
pub mod Resizing
pub mod Growing
pub mod Cutting
pub mod Sizing
pub mod Choosing
pub mod Leaving
