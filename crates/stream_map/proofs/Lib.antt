pub use Rattle.disk_model.proofs as disk_model
pub mod Inserting
pub mod Joining
pub mod Padding
pub mod Ranges
pub mod Reading
pub mod ListEntries
pub mod ListFronts
pub mod ListReading
