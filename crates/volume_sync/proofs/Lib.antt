pub use Rattle.volume_core.proofs as volume_core
pub mod Laps
pub mod Runs
pub mod Syncs
pub mod Rooms
