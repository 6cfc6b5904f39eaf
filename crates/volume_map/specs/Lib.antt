pub use Rattle.record_model.specs as record_model
pub use Rattle.record_model.specs.disk_model
pub use Rattle.state_model.specs as state_model
pub use Rattle.state_model.specs.file_tree
pub use Rattle.stream_map.specs as stream_map
pub use Rattle.stream_map.specs.block_view
pub use Rattle.volume_model.specs as volume_model
pub use Rattle.volume_model.specs.index_model
pub mod Errors
pub mod Slots
pub mod Stages
pub mod Lists
pub mod Heads
pub mod Maps
pub mod First
