pub use Rattle.log_model.specs as log_model
pub use Rattle.tree_laws.specs as tree_laws
pub use Rattle.tree_laws.specs.record_model
pub use Rattle.tree_laws.specs.state_model
pub use Rattle.tree_laws.specs.stream_laws
pub use Rattle.tree_laws.specs.volume_model
pub use Rattle.tree_laws.specs.volume_state
pub mod States
pub mod Kinds
pub mod Agreeing
