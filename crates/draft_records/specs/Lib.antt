pub use Rattle.plan_draft.specs as plan_draft
pub use Rattle.plan_draft.specs.block_view
pub use Rattle.plan_draft.specs.plan_bodies
pub use Rattle.record_model.specs as record_model
pub use Rattle.record_model.specs.disk_model
pub use Rattle.resized_streams.specs as resized_streams
pub use Rattle.resized_streams.specs.plan_space
pub use Rattle.resized_streams.specs.record_writer
pub use Rattle.resized_streams.specs.space_model
pub use Rattle.resized_streams.specs.volume_model
pub use Rattle.state_model.specs as state_model
pub mod Faults
pub mod Records
