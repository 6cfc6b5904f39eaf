pub use Rattle.plan_model.specs.file_tree
pub use Rattle.plan_model.specs.plan_owners
pub use Rattle.plan_model.specs.stream_laws
pub use Rattle.plan_model.specs.volume_model
pub use Rattle.record_writer.specs as record_writer
pub use Rattle.record_writer.specs.disk_model
pub use Rattle.run_model.specs.tree_model
pub use Rattle.space_model.specs as space_model
pub use Rattle.stream_runs.specs as stream_runs
pub mod Placing
pub mod Used
pub mod Streams
pub mod Spreads
pub mod SpreadLaws
pub mod Plans
pub mod PlanLaws
pub mod UsedLaws
pub mod Contents
pub mod Steps
pub mod StepLaws
pub mod ContentLaws
pub mod Worked
