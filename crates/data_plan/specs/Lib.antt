pub use Rattle.used_laws.specs as used_laws
pub use Rattle.used_laws.specs.draft_records
pub use Rattle.used_laws.specs.plan_owners
pub use Rattle.used_laws.specs.record_streams
pub use Rattle.used_laws.specs.record_values
pub use Rattle.used_laws.specs.record_writer
pub use Rattle.used_laws.specs.resized_streams
pub use Rattle.used_laws.specs.state_model
pub use Rattle.used_laws.specs.step_model
pub use Rattle.used_laws.specs.stream_laws
pub use Rattle.used_laws.specs.stream_runs
pub use Rattle.used_laws.specs.volume_model
pub mod Faults
pub mod Changes
pub mod Laws
