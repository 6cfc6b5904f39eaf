pub use Rattle.log_model.proofs as log_model
pub mod Checked
pub mod Appended
pub mod OverBytes
