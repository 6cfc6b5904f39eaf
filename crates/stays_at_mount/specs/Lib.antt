pub use Rattle.txn_mount.specs as txn_mount
pub mod Mounts
