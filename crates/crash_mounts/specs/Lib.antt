pub use Rattle.member_states.specs as member_states
pub use Rattle.member_states.specs.map_change
pub use Rattle.member_states.specs.state_blocks
pub use Rattle.member_states.specs.state_store
pub use Rattle.member_states.specs.txn_laws
pub use Rattle.member_states.specs.txn_model
pub use Rattle.member_states.specs.txn_state
pub use Rattle.mount_laws.specs as mount_laws
pub use Rattle.mount_laws.specs.image_open
pub use Rattle.mount_laws.specs.plan_owners
pub use Rattle.mount_laws.specs.volume_mount
pub use Rattle.txn_mount.specs as txn_mount
pub use Rattle.txn_mount.specs.txn_core
pub mod Opening
pub mod Reading
pub mod Loading
pub mod Clearing
pub mod Mounting
