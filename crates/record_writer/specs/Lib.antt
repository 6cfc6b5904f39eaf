pub use Rattle.disk_model.specs as disk_model
pub use Rattle.disk_model.specs.host_base
pub use Rattle.record_model.specs as record_model
pub mod Faults
pub mod Edits
pub mod Fitting
pub mod Normal
pub mod WriteLaws
pub mod NormalLaws
