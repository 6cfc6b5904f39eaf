pub use Rattle.stream_rules.proofs as stream_rules
pub use Rattle.usn_journal.proofs.journal_model
pub use Rattle.volume_state.proofs as volume_state
pub mod Chain
pub mod Steps
