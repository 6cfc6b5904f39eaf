use Rattle.resting_states.proofs.Recovering.{turned_members}
use Rattle.resting_states.proofs.laws.turns_add_none.Goals as goal

pub returns : goal.returns
returns c = turned_members c.needed_is_all.ensures
