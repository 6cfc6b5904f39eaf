pub use Rattle.draft_records.proofs as draft_records
pub mod Spares
