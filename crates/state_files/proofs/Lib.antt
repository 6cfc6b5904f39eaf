pub use Rattle.data_plan.proofs as data_plan
pub use Rattle.state_streams.proofs as state_streams
mod Having
