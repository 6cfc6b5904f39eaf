pub use Rattle.state_store.proofs as state_store
pub mod Known
pub mod Rows
