pub use Rattle.draft_streams.specs as draft_streams
pub use Rattle.draft_streams.specs.block_view
pub use Rattle.draft_streams.specs.disk_model
pub use Rattle.draft_streams.specs.plan_bodies
pub use Rattle.draft_streams.specs.plan_draft
pub use Rattle.draft_streams.specs.record_model
pub use Rattle.draft_streams.specs.state_model
pub mod Filling
pub mod Effects
