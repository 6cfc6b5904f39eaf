pub use Rattle.bit_set.proofs as bit_set
pub use Rattle.bit_set.proofs.host_base
pub use Rattle.upcase_order.proofs as upcase_order
pub use Rattle.upcase_order.proofs.disk_model
pub use Rattle.upcase_order.proofs.file_tree
pub use Rattle.upcase_order.proofs.index_model
pub mod Loading
pub mod Ordering
