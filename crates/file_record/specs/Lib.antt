pub use Rattle.attr_codec.specs as attr_codec
pub use Rattle.state_model.specs as state_model
pub use Rattle.state_model.specs.host_base
pub mod Faults
pub mod Walks
