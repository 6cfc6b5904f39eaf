pub use Rattle.log_recovery.specs.device_view
pub use Rattle.log_recovery.specs.log_page
pub use Rattle.log_recovery.specs.log_reading
pub use Rattle.state_model.specs as state_model
pub use Rattle.volume_map.specs as volume_map
pub mod Errors
pub mod LogPlaces
pub mod LogLaws
pub mod Volumes
pub mod Openings
pub mod Clusters
pub mod Writing
