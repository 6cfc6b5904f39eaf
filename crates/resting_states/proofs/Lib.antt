pub use Rattle.found_stays.proofs as found_stays
pub mod Finding
pub mod Storing
pub mod Putting
pub mod Turning
pub mod Starting
pub mod Recovering
