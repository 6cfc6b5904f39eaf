pub use Rattle.plan_space.specs as plan_space
pub use Rattle.plan_space.specs.space_model
pub use Rattle.record_streams.specs as record_streams
pub use Rattle.record_streams.specs.host_base
pub use Rattle.record_streams.specs.record_writer
pub use Rattle.record_streams.specs.stream_runs
pub use Rattle.record_streams.specs.volume_model
pub mod Resizing
