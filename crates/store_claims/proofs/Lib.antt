pub use Rattle.store_model.proofs as store_model
pub mod Lists
pub mod Agreeing
pub mod Moving
pub mod Staying
pub mod Recovering
