pub use Rattle.image_read.proofs.image_open
pub use Rattle.image_read.proofs.stream_rules
pub use Rattle.volume_lookup.proofs as volume_lookup
pub use Rattle.volume_shadows.proofs as volume_shadows
pub use Rattle.volume_shadows.proofs.stream_laws
pub use Rattle.volume_state.proofs as volume_state
pub mod Leading
pub mod Tabling
pub mod Chained
pub mod Opened
pub mod Sectors
pub mod Replying
mod Fronting
pub mod Booting
