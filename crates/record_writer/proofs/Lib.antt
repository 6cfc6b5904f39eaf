pub use Rattle.disk_model.proofs as disk_model
pub use Rattle.record_model.proofs as record_model
pub mod Measures
pub mod Pieces
pub mod Whole
pub mod Again
pub mod Rising
pub mod Filling
pub mod Staying
pub mod NormalRoom
