pub use Rattle.txn_log.proofs as txn_log
pub mod Blocks
pub mod Bools
pub mod Changes
pub mod Facts
pub mod Marking
pub mod OnLog
pub mod Stores
pub mod Turning
