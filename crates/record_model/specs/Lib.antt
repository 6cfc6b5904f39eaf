pub use Rattle.disk_model.specs as disk_model
pub use Rattle.disk_model.specs.host_base
pub use Rattle.utf16_name.specs as utf16_name
pub mod Constants
pub mod Attributes
pub mod Values
pub mod Records
pub mod ListEntries
pub mod RecordLaws
pub mod Pairs
pub mod PairsLaws
pub mod Runs
pub mod StdValues
pub mod StdValuesLaws
pub mod Nodes
pub mod NodeLaws
