pub use Rattle.spares_at_mount.specs as spares_at_mount
pub use Rattle.spares_at_mount.specs.image_open
pub use Rattle.spares_at_mount.specs.map_change
pub use Rattle.spares_at_mount.specs.plan_owners
pub use Rattle.spares_at_mount.specs.plan_spares
pub use Rattle.spares_at_mount.specs.same_names
pub use Rattle.spares_at_mount.specs.state_blocks
pub use Rattle.spares_at_mount.specs.txn_core
pub use Rattle.spares_at_mount.specs.txn_laws
pub use Rattle.spares_at_mount.specs.txn_model
pub use Rattle.spares_at_mount.specs.txn_state
pub use Rattle.spares_at_mount.specs.volume_lookup
pub use Rattle.spares_at_mount.specs.volume_map
pub use Rattle.spares_at_mount.specs.volume_mount
pub use Rattle.spares_at_mount.specs.volume_tree
pub use Rattle.writes_keep.specs as writes_keep
pub use Rattle.writes_keep.specs.file_puts
pub use Rattle.writes_keep.specs.names_stay
pub use Rattle.writes_keep.specs.step_model
pub mod Leading
pub mod Welcoming
