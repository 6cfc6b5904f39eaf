pub use Rattle.draft_records.specs as draft_records
pub mod Numbers
