pub use Rattle.index_plan.specs as index_plan
pub use Rattle.index_tree.specs as index_tree
pub use Rattle.index_tree.specs.bit_set
pub use Rattle.index_tree.specs.block_view
pub use Rattle.index_tree.specs.file_tree
pub use Rattle.index_tree.specs.host_base
pub use Rattle.index_tree.specs.index_model
pub use Rattle.index_tree.specs.state_model
pub use Rattle.index_tree.specs.volume_model
pub use Rattle.record_model.specs as record_model
pub mod Faults
pub mod Orders
pub mod Holding
pub mod Changing
pub mod Heights
pub mod Amounts
pub mod Plans
pub mod Removals
pub mod NodePlans
pub mod Levels
