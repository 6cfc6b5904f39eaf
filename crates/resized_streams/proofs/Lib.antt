pub use Rattle.plan_space.proofs.space_model
pub use Rattle.record_streams.proofs as record_streams
pub use Rattle.record_streams.proofs.record_writer
pub use Rattle.record_streams.proofs.stream_map
pub use Rattle.record_streams.proofs.stream_runs
pub mod Chosen
