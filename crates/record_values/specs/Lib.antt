pub use Rattle.record_streams.specs as record_streams
pub mod Values
pub mod Laws
