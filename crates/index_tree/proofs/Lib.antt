pub use Rattle.index_model.proofs as index_model
pub use Rattle.stream_map.proofs as stream_map
pub use Rattle.volume_model.proofs.file_tree
pub use Rattle.volume_model.proofs.host_base
pub use Rattle.volume_model.proofs.upcase_order
pub mod Listed
pub mod Near
pub mod Marking
pub mod Finals
pub mod Steps
pub mod Searching
pub mod Between
pub mod FindLaw
pub mod Calls
