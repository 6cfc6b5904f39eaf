use Rattle.resting_states.proofs.Starting.{all_start}
use Rattle.resting_states.proofs.laws.starts_rest.Goals as goal

pub returns : goal.returns
returns c = all_start c.starts_hold_states.ensures
