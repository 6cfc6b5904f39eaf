pub use Rattle.store_model.specs as store_model
pub mod Claims
pub mod Windows
pub mod Moves
pub mod Laws
pub mod ClaimVector
