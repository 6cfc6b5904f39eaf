pub use Rattle.crash_mounts.specs as crash_mounts
pub use Rattle.crash_mounts.specs.txn_mount
pub use Rattle.resting_states.specs as resting_states
pub use Rattle.resting_states.specs.found_stays
pub use Rattle.txn_close.specs as txn_close
pub mod Trees
pub mod Starts
pub mod Puts
pub mod Turns
pub mod Mounting
pub mod Closing
