pub use Rattle.plan_model.specs as plan_model
pub use Rattle.plan_model.specs.file_tree
pub use Rattle.plan_model.specs.index_change
pub use Rattle.plan_model.specs.index_model
pub use Rattle.plan_model.specs.index_tree
pub use Rattle.plan_model.specs.plan_bodies
pub use Rattle.plan_model.specs.plan_owners
pub use Rattle.plan_model.specs.record_model
pub use Rattle.plan_model.specs.state_model
pub use Rattle.plan_model.specs.stream_laws
pub use Rattle.plan_model.specs.tree_laws
pub use Rattle.plan_model.specs.volume_model
pub use Rattle.plan_model.specs.volume_state
pub use Rattle.resized_streams.specs as resized_streams
pub use Rattle.resized_streams.specs.record_streams
pub use Rattle.resized_streams.specs.record_writer
pub use Rattle.resized_streams.specs.space_model
pub use Rattle.resized_streams.specs.stream_runs
pub mod Streams
pub mod Trees
pub mod Growing
pub mod Cutting
pub mod Sizing
pub mod Choosing
pub mod Leaving
