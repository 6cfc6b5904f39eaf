pub use Rattle.member_states.proofs as member_states
pub use Rattle.member_states.proofs.state_store
pub use Rattle.member_states.proofs.txn_laws
pub use Rattle.mount_laws.proofs.plan_owners
pub use Rattle.plan_growth.proofs.plan_model
pub mod Opening
pub mod Reading
pub mod Loading
pub mod Clearing
pub mod Mounting
pub mod Logs
pub mod Holding
