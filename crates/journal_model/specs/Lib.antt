pub use Rattle.record_model.specs as record_model
pub mod UsnRecords
pub mod Pages
pub mod Journals
pub mod UsnLaws
pub mod JournalLaws
pub mod UsnVector
