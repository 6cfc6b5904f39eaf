pub use Rattle.usn_journal.specs as usn_journal
pub use Rattle.usn_journal.specs.journal_model
pub use Rattle.volume_model.specs as volume_model
pub use Rattle.volume_state.specs as volume_state
pub mod Errors
pub mod Parts
pub mod Steps
