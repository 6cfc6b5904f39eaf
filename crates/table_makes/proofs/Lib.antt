pub use Rattle.grown_tables.proofs as grown_tables
pub mod Runs
pub mod Counted
pub mod Putting
