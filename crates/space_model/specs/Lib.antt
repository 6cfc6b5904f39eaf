pub use Rattle.bit_set.specs as bit_set
pub use Rattle.record_model.specs as record_model
pub mod Choosing
pub mod Laws
