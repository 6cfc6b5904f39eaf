pub use Rattle.log_laws.specs.log_page
pub use Rattle.plan_owners.specs as plan_owners
pub use Rattle.volume_mount.specs as volume_mount
pub use Rattle.volume_mount.specs.image_open
pub use Rattle.volume_mount.specs.image_read
pub use Rattle.volume_mount.specs.log_reading
pub use Rattle.volume_mount.specs.stream_laws
pub use Rattle.volume_mount.specs.volume_lookup
pub use Rattle.volume_mount.specs.volume_map
pub use Rattle.volume_mount.specs.volume_model
pub use Rattle.volume_mount.specs.volume_shadows
pub use Rattle.volume_mount.specs.volume_state
pub use Rattle.volume_mount.specs.volume_tree
pub mod Laws
pub mod Firsts
