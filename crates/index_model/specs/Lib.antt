pub use Rattle.state_model.specs as state_model
pub use Rattle.state_model.specs.disk_model
pub use Rattle.state_model.specs.file_tree
pub use Rattle.state_model.specs.host_base
pub use Rattle.state_model.specs.record_model
pub mod Trees
pub mod Indexes
pub mod Walks
pub mod Laws
pub mod Breaks
