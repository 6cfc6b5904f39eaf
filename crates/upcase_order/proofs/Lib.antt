pub use Rattle.index_model.proofs as index_model
pub use Rattle.index_model.proofs.disk_model
pub use Rattle.index_model.proofs.file_tree
pub mod NameLaws
pub mod Units
