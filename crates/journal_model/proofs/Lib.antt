pub use Rattle.record_model.proofs as record_model
pub mod UsnRead
pub mod UsnSpelled
pub mod UsnWorked
pub mod PageRead
pub mod RecordsBehind
pub mod JournalPages
pub mod JournalParts
pub mod Ends
