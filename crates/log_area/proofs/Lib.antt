pub use Rattle.disk_model.proofs as disk_model
pub use Rattle.sector_device.proofs as sector_device
pub mod Shapes
pub mod Numbering
pub mod Firsts
pub mod Keeping
pub mod Behind
