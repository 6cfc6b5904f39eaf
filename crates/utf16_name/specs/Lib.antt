pub use Rattle.host_base.specs as host_base
pub mod Elements
pub mod Lawful
pub mod Names
pub mod Reading
pub mod Spelled
pub mod Spelling
pub mod Texts
