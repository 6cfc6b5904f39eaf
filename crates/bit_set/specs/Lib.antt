pub use Rattle.host_base.specs as host_base
pub mod Bits
pub mod Sets
pub mod Summaries
pub mod Trees
pub mod Words
