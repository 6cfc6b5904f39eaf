pub use Rattle.change_plan.specs as change_plan
pub use Rattle.plans_lead.specs as plans_lead
pub use Rattle.plans_lead.specs.file_puts
pub use Rattle.plans_lead.specs.image_open
pub use Rattle.plans_lead.specs.map_change
pub use Rattle.plans_lead.specs.plan_owners
pub use Rattle.plans_lead.specs.spares_at_mount
pub use Rattle.plans_lead.specs.state_blocks
pub use Rattle.plans_lead.specs.step_model
pub use Rattle.plans_lead.specs.txn_core
pub use Rattle.plans_lead.specs.txn_laws
pub use Rattle.plans_lead.specs.volume_lookup
pub use Rattle.plans_lead.specs.volume_map
pub use Rattle.plans_lead.specs.volume_mount
pub use Rattle.plans_lead.specs.volume_tree
pub use Rattle.plans_lead.specs.writes_keep
pub use Rattle.put_checks.specs.state_store
pub mod Ready
pub mod Doing
pub mod Putting
