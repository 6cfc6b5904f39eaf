pub use Rattle.volume_replies.specs as volume_replies
pub mod Turns
pub mod Runs
