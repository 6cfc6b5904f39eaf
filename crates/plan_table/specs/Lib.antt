pub use Rattle.record_values.specs as record_values
pub mod Growing
