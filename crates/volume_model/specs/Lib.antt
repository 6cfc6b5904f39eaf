pub use Rattle.bit_set.specs as bit_set
pub use Rattle.bit_set.specs.host_base
pub use Rattle.upcase_order.specs as upcase_order
pub use Rattle.upcase_order.specs.disk_model
pub use Rattle.upcase_order.specs.file_tree
pub use Rattle.upcase_order.specs.index_model
pub use Rattle.upcase_order.specs.record_model
pub use Rattle.upcase_order.specs.state_model
pub mod Volumes
pub mod Indexes
pub mod Sizes
pub mod Owners
pub mod Nodes
pub mod Laws
