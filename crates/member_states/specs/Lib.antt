pub use Rattle.state_store.specs as state_store
pub use Rattle.state_store.specs.device_blocks
pub use Rattle.state_store.specs.log_area
pub use Rattle.state_store.specs.map_change
pub use Rattle.state_store.specs.ring_laws
pub use Rattle.state_store.specs.state_blocks
pub use Rattle.state_store.specs.turn_laws
pub use Rattle.state_store.specs.txn_laws
pub use Rattle.state_store.specs.txn_model
pub use Rattle.state_store.specs.txn_state
pub mod Members
pub mod Crashes
pub mod Steps
pub mod Puts
pub mod Starts
pub mod Leads
