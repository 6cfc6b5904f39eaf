pub use Rattle.record_writer.specs as record_writer
pub use Rattle.record_writer.specs.host_base
pub use Rattle.record_writer.specs.record_model
pub use Rattle.stream_map.specs as stream_map
pub use Rattle.stream_map.specs.state_model
pub use Rattle.stream_runs.specs as stream_runs
pub use Rattle.stream_runs.specs.volume_model
pub mod Placing
pub mod Fitting
pub mod Laws
