pub use Rattle.image_read.specs as image_read
pub use Rattle.image_read.specs.image_open
pub use Rattle.image_read.specs.log_reading
pub use Rattle.image_read.specs.usn_journal
pub use Rattle.image_read.specs.volume_map
pub use Rattle.state_model.specs as state_model
pub use Rattle.volume_lookup.specs as volume_lookup
pub use Rattle.volume_lookup.specs.volume_tree
pub use Rattle.volume_shadows.specs as volume_shadows
pub use Rattle.volume_shadows.specs.log_recovery
pub use Rattle.volume_shadows.specs.stream_laws
pub use Rattle.volume_state.specs as volume_state
pub use Rattle.volume_state.specs.volume_model
pub mod Boot
pub mod Mounts
pub mod Welcome
pub mod Answers
pub mod Trees
pub mod Fronts
