pub use Rattle.mount_laws.specs as mount_laws
pub use Rattle.mount_laws.specs.image_open
pub use Rattle.mount_laws.specs.image_read
pub use Rattle.mount_laws.specs.plan_owners
pub use Rattle.mount_laws.specs.volume_lookup
pub use Rattle.mount_laws.specs.volume_map
pub use Rattle.mount_laws.specs.volume_mount
pub use Rattle.mount_laws.specs.volume_shadows
pub use Rattle.mount_laws.specs.volume_state
pub use Rattle.mount_laws.specs.volume_tree
pub use Rattle.plan_spares.specs as plan_spares
pub use Rattle.state_store.specs as state_store
pub use Rattle.state_store.specs.map_change
pub use Rattle.state_store.specs.same_names
pub use Rattle.state_store.specs.state_blocks
pub use Rattle.state_store.specs.txn_core
pub use Rattle.state_store.specs.txn_laws
pub use Rattle.state_store.specs.txn_model
pub use Rattle.state_store.specs.txn_state
pub mod Mounts
