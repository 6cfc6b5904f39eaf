pub use Rattle.file_tree.specs as file_tree
pub use Rattle.record_model.specs as record_model
pub use Rattle.record_model.specs.disk_model
pub use Rattle.record_model.specs.host_base
pub mod Clusters
pub mod Files
pub mod Indexes
pub mod Trees
pub mod Rules
pub mod Streams
pub mod Loads
