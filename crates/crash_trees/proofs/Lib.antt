pub use Rattle.txn_close.proofs as txn_close
pub mod Reading
pub mod Claiming
pub mod Starting
pub mod Putting
pub mod Turning
pub mod Mounting
pub mod Closing
