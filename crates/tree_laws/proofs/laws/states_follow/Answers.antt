use Rattle.tree_laws.proofs.Stepping.{step_loaded, step_holds, step_state, step_tree, records_enough, grows_by_none}
use Rattle.tree_laws.proofs.laws.states_follow.Goals as goal

pub returns : goal.returns
returns c = record { loaded = step_loaded; holds = step_holds; state = step_state; tree = step_tree; enough = records_enough; stays = grows_by_none }
