pub use Rattle.host_base.proofs as host_base
pub mod Bitwise
pub mod Members
pub mod Merging
pub mod Places
pub mod Searches
pub mod Trees
pub mod Views
