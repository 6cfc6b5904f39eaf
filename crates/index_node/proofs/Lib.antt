pub use Rattle.disk_model.proofs as disk_model
pub mod Keys
pub mod Walking
pub mod Whole
pub mod Sizes
pub mod Placing
pub mod EditsFit
pub mod RootSpelled
pub mod RootPlaces
