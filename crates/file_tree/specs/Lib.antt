pub use Rattle.utf16_name.specs as utf16_name
pub use Rattle.utf16_name.specs.host_base
pub mod Names
pub mod Trees
pub mod Walks
