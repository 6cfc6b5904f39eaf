pub use Rattle.stream_laws.specs as stream_laws
pub use Rattle.volume_state.specs as volume_state
pub use Rattle.volume_state.specs.bit_set
pub use Rattle.volume_state.specs.file_tree
pub use Rattle.volume_state.specs.host_base
pub use Rattle.volume_state.specs.record_model
pub use Rattle.volume_state.specs.state_model
pub use Rattle.volume_state.specs.volume_model
pub mod Keeping
pub mod Links
pub mod Nodes
pub mod Rules
pub mod Parts
pub mod Contents
pub mod Trees
pub mod Ways
pub mod Leaves
pub mod Changed
pub mod Owners
pub mod Planned
pub mod Listed
pub mod Journal
pub mod Room
pub mod Growth
pub mod LookUps
pub mod Steps
