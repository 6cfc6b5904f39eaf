pub use Rattle.journal_model.proofs as journal_model
pub mod PagesLeft
pub mod Shapes
pub mod WithoutRecords
pub mod Ends
pub mod PagesRead
pub mod Left
