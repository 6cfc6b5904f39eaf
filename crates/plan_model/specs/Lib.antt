pub use Rattle.index_change.specs as index_change
pub use Rattle.index_change.specs.bit_set
pub use Rattle.index_change.specs.block_view
pub use Rattle.index_change.specs.file_tree
pub use Rattle.index_change.specs.index_model
pub use Rattle.index_change.specs.index_plan
pub use Rattle.index_change.specs.index_tree
pub use Rattle.index_change.specs.record_model
pub use Rattle.index_change.specs.state_model
pub use Rattle.index_change.specs.volume_model
pub use Rattle.plan_bodies.specs as plan_bodies
pub use Rattle.plan_bodies.specs.disk_model
pub use Rattle.plan_owners.specs as plan_owners
pub use Rattle.plan_owners.specs.stream_laws
pub use Rattle.plan_owners.specs.tree_laws
pub use Rattle.plan_owners.specs.volume_state
pub mod Edits
pub mod Attributes
pub mod Informed
pub mod Drafts
pub mod Made
pub mod Indexed
pub mod Parts
pub mod Tables
pub mod PlannedIndexes
