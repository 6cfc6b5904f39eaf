pub use Rattle.log_recovery.specs as log_recovery
pub use Rattle.stream_laws.specs as stream_laws
pub mod Least
pub mod Live
pub mod Tries
pub mod Laws
