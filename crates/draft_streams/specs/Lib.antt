pub use Rattle.plan_draft.specs as plan_draft
pub use Rattle.plan_draft.specs.plan_bodies
pub use Rattle.stream_map.specs.block_view
pub use Rattle.stream_map.specs.disk_model
pub use Rattle.stream_map.specs.record_model
pub use Rattle.stream_map.specs.state_model
pub mod Parts
pub mod Effects
