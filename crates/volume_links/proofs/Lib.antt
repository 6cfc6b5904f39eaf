pub use Rattle.record_model.proofs as record_model
pub mod Declining
pub mod Growing
pub mod Plainly
pub mod Scanned
pub mod Seeing
