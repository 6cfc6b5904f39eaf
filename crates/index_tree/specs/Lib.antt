pub use Rattle.index_model.specs as index_model
pub use Rattle.stream_map.specs.block_view
pub use Rattle.stream_map.specs.disk_model
pub use Rattle.stream_map.specs.state_model
pub use Rattle.volume_model.specs as volume_model
pub use Rattle.volume_model.specs.bit_set
pub use Rattle.volume_model.specs.file_tree
pub use Rattle.volume_model.specs.host_base
pub mod Allocations
pub mod Marks
pub mod Places
pub mod Faults
pub mod Calls
