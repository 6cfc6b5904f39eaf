pub use Rattle.state_store.specs as state_store
pub mod Checks
pub mod Laws
