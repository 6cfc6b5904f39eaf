pub use Rattle.index_model.specs as index_model
pub use Rattle.index_model.specs.disk_model
pub use Rattle.index_model.specs.file_tree
pub use Rattle.index_model.specs.record_model
pub use Rattle.index_model.specs.state_model
pub mod OrderLaws
pub mod Tables
