pub use Rattle.map_change.specs as map_change
pub use Rattle.map_change.specs.volume_map
pub use Rattle.map_change.specs.volume_model
pub use Rattle.record_rules.specs.state_model
pub mod Names
pub mod Keeping
