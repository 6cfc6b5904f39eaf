pub use Rattle.volume_lookup.specs as volume_lookup
pub mod Lowest
