pub use Rattle.resting_states.specs.found_stays
pub use Rattle.safe_blocks.specs as safe_blocks
pub use Rattle.safe_blocks.specs.image_open
pub use Rattle.safe_blocks.specs.map_change
pub use Rattle.safe_blocks.specs.state_store
pub use Rattle.safe_blocks.specs.volume_map
pub use Rattle.safe_blocks.specs.volume_mount
pub use Rattle.safe_blocks.specs.volume_tree
pub mod Shown
pub mod Calls
pub mod Starts
pub mod Ready
