pub use Rattle.journal_model.specs as journal_model
pub use Rattle.journal_model.specs.record_model
pub use Rattle.volume_model.specs as volume_model
pub use Rattle.volume_model.specs.bit_set
pub use Rattle.volume_model.specs.disk_model
pub use Rattle.volume_model.specs.file_tree
pub use Rattle.volume_model.specs.host_base
pub use Rattle.volume_model.specs.state_model
pub use Rattle.volume_model.specs.upcase_order
pub mod Versions
pub mod Journals
pub mod Rules
pub mod Trees
pub mod Laws
