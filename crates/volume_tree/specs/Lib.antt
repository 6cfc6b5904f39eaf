pub use Rattle.state_model.specs as state_model
pub use Rattle.state_model.specs.record_model
pub use Rattle.volume_map.specs as volume_map
pub use Rattle.volume_map.specs.index_model
pub use Rattle.volume_model.specs as volume_model
pub use Rattle.volume_state.specs as volume_state
pub mod Named
pub mod Shown
