pub use Rattle.log_model.specs as log_model
pub mod Reading
