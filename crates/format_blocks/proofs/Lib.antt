pub use Rattle.volume_format.proofs.record_writer
pub mod Placing
pub mod Naming
pub mod Fitting
pub mod Recording
pub mod Sizing
pub mod Standing
pub mod Bodies
