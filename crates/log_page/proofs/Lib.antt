pub use Rattle.disk_model.proofs as disk_model
pub use Rattle.log_record.proofs.log_model
pub mod Words
pub mod Shifts
pub mod PlacesFit
pub mod Spelled
pub mod ReadAgain
pub mod Readings
pub mod Walking
pub mod Mixed
pub mod PageAgain
