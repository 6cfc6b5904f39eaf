pub use Rattle.record_values.proofs as record_values
pub mod Values
pub mod Remade
pub mod Behind
pub mod Bits
pub mod Table
pub mod Room
pub mod Grown
pub mod First
