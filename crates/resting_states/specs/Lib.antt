pub use Rattle.found_stays.specs as found_stays
pub mod Resting
pub mod Puts
pub mod Turns
pub mod Starts
pub mod Crashes
