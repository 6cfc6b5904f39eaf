pub use Rattle.plan_owners.proofs as plan_owners
pub use Rattle.plan_owners.proofs.tree_laws
pub use Rattle.volume_mount.proofs as volume_mount
pub use Rattle.volume_mount.proofs.image_open
pub use Rattle.volume_mount.proofs.stream_laws
pub use Rattle.volume_mount.proofs.volume_lookup
pub use Rattle.volume_mount.proofs.volume_shadows
mod Kept
mod Rings
mod Records
mod Opened
mod Placed
mod Rising
mod First
