pub use Rattle.device_view.proofs as device_view
pub use Rattle.disk_model.proofs as disk_model
pub use Rattle.log_area.proofs as log_area
pub mod Stood
pub mod Pieces
pub mod Told
