pub use Rattle.grown_tables.specs as grown_tables
pub mod Faults
pub mod Growing
