pub use Rattle.state_streams.specs as state_streams
pub mod Files
