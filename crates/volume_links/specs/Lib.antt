pub use Rattle.record_model.specs as record_model
pub mod Names
pub mod Plain
pub mod Scans
