pub use Rattle.spares_at_mount.proofs.plan_owners
pub use Rattle.spares_at_mount.proofs.txn_core
pub use Rattle.spares_at_mount.proofs.volume_lookup
pub use Rattle.spares_at_mount.proofs.volume_mount
pub mod Welcoming
pub mod Leading
