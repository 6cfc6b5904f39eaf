use Rattle.resting_states.proofs.Putting.{all_rest}
use Rattle.resting_states.proofs.laws.puts_rest.Goals as goal

pub returns : goal.returns
returns c = all_rest c.puts_spare.ensures c.volumes_may_put.ensures c.puts_keep_states.ensures
