pub use Rattle.disk_model.specs as disk_model
pub mod Entries
pub mod EntryLaws
pub mod Logs
pub mod LogLaws
pub mod StoreLaws
pub mod LogVector
