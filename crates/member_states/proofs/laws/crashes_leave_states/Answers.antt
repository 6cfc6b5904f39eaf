use Rattle.member_states.proofs.Recovering.{to_state, now_to_state, during_to_state}
use Rattle.member_states.proofs.laws.crashes_leave_states.Goals as goal

pub returns : goal.returns
returns c = record { recovers = to_state; at_return = now_to_state; during = during_to_state }
