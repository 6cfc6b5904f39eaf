pub use Rattle.image_open.proofs as image_open
pub use Rattle.image_open.proofs.device_view
pub use Rattle.image_open.proofs.volume_map
pub use Rattle.volume_check.proofs.stream_rules
mod Begins
mod Entries
mod Links
mod Rules
mod States
mod Whole
