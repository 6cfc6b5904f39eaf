pub use Rattle.spares_at_mount.specs as spares_at_mount
pub use Rattle.spares_at_mount.specs.image_open
pub use Rattle.spares_at_mount.specs.image_read
pub use Rattle.spares_at_mount.specs.map_change
pub use Rattle.spares_at_mount.specs.mount_laws
pub use Rattle.spares_at_mount.specs.plan_owners
pub use Rattle.spares_at_mount.specs.plan_spares
pub use Rattle.spares_at_mount.specs.state_blocks
pub use Rattle.spares_at_mount.specs.state_store
pub use Rattle.spares_at_mount.specs.txn_core
pub use Rattle.spares_at_mount.specs.txn_laws
pub use Rattle.spares_at_mount.specs.volume_map
pub use Rattle.spares_at_mount.specs.volume_mount
pub use Rattle.spares_at_mount.specs.volume_shadows
pub use Rattle.spares_at_mount.specs.volume_tree
pub mod Safe
