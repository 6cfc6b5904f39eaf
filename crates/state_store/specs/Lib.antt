pub use Rattle.same_names.specs as same_names
pub use Rattle.same_names.specs.map_change
pub use Rattle.same_names.specs.state_model
pub use Rattle.same_names.specs.volume_model
pub use Rattle.state_blocks.specs as state_blocks
pub use Rattle.state_blocks.specs.plan_owners
pub use Rattle.state_blocks.specs.volume_state
pub use Rattle.turn_laws.specs as turn_laws
pub use Rattle.turn_laws.specs.device_blocks
pub use Rattle.turn_laws.specs.log_area
pub use Rattle.turn_laws.specs.log_page
pub use Rattle.turn_laws.specs.log_reading
pub use Rattle.turn_laws.specs.ring_laws
pub use Rattle.turn_laws.specs.store_claims
pub use Rattle.turn_laws.specs.store_model
pub use Rattle.turn_laws.specs.txn_core
pub use Rattle.turn_laws.specs.txn_laws
pub use Rattle.turn_laws.specs.txn_model
pub use Rattle.turn_laws.specs.txn_state
pub mod Volumes
pub mod Changes
pub mod Rooms
pub mod Claims
pub mod Windows
pub mod Logging
pub mod Preparing
pub mod Puts
pub mod Turns
pub mod Spared
