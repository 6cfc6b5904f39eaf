pub use Rattle.member_states.proofs as member_states
pub use Rattle.spares_at_mount.proofs as spares_at_mount
pub use Rattle.spares_at_mount.proofs.image_open
pub use Rattle.spares_at_mount.proofs.plan_model
pub use Rattle.spares_at_mount.proofs.plan_owners
pub use Rattle.spares_at_mount.proofs.ring_laws
pub use Rattle.spares_at_mount.proofs.state_blocks
pub use Rattle.spares_at_mount.proofs.volume_shadows
pub mod Listing
pub mod Blocks
pub mod Starting
