use Rattle.resting_states.proofs.Recovering.{all_recover}
use Rattle.resting_states.proofs.laws.rests_recover.Goals as goal

pub returns : goal.returns
returns c = all_recover c.needed_is_all.ensures c.crashes_leave_states.ensures c.steps_keep_states.ensures
