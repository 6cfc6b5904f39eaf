pub use Rattle.stream_laws.proofs as stream_laws
pub mod Lists
pub mod Resizing
pub mod Places
pub mod Blocks
pub mod Themselves
pub mod Applied
pub mod Marked
pub mod After
pub mod Standing
pub mod Prepared
