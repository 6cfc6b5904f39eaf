pub use Rattle.crash_trees.specs as crash_trees
pub use Rattle.crash_trees.specs.resting_states
pub use Rattle.crash_trees.specs.txn_mount
pub use Rattle.working_volume.specs as working_volume
pub use Rattle.working_volume.specs.change_plan
pub use Rattle.working_volume.specs.image_open
pub use Rattle.working_volume.specs.plans_lead
pub use Rattle.working_volume.specs.state_store
pub use Rattle.working_volume.specs.txn_core
pub use Rattle.working_volume.specs.volume_mount
pub mod Volumes
pub mod Looks
pub mod Staying
pub mod Histories
pub mod Calls
pub mod Trees
pub mod Telling
