pub use Rattle.disk_model.specs as disk_model
pub mod Bodies
