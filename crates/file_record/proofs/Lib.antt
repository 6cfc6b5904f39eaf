pub use Rattle.attr_codec.proofs as attr_codec
pub mod Walking
pub mod Whole
