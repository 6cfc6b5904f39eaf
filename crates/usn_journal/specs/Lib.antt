pub use Rattle.journal_model.specs as journal_model
pub mod JournalErrors
pub mod Judging
pub mod Places
pub mod PullErrors
pub mod Pulls
