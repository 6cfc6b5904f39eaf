pub use Rattle.block_view.specs as block_view
pub use Rattle.disk_model.specs as disk_model
pub use Rattle.record_model.specs as record_model
pub use Rattle.state_model.specs as state_model
pub mod Attributes
pub mod Reads
pub mod ListFronts
pub mod ListSteps
