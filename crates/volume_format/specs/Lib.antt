pub use Rattle.record_writer.specs as record_writer
pub mod Layouts
pub mod Answers
pub mod Files
pub mod Indexes
pub mod Images
pub mod Stopping
pub mod Crashing
pub mod Fillings
pub mod Parts
