pub use Rattle.log_area.proofs as log_area
pub use Rattle.log_area.proofs.disk_model
pub use Rattle.log_area.proofs.sector_device
pub use Rattle.ring_laws.proofs as ring_laws
pub use Rattle.ring_laws.proofs.fixup_record
pub use Rattle.ring_laws.proofs.log_laws
pub use Rattle.ring_laws.proofs.log_model
pub use Rattle.ring_laws.proofs.log_page
pub mod Entries
pub mod Filling
pub mod Keeps
pub mod Appending
pub mod Calling
pub mod Naming
pub mod Joined
pub mod Reading
pub mod Rising
