pub use Rattle.disk_model.specs as disk_model
pub use Rattle.fixup_record.specs as fixup_record
pub use Rattle.log_record.specs.log_model
pub mod Places
pub mod PlaceLaws
pub mod Restarts
pub mod RestartLaws
pub mod CheckWords
pub mod RecordPages
pub mod LiveLogs
pub mod PageSpellings
pub mod PageLaws
