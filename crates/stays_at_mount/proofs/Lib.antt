pub use Rattle.txn_mount.proofs as txn_mount
pub mod Mounting
