use Rattle.crash_mounts.proofs.Loading.{states_load}
use Rattle.crash_mounts.proofs.laws.states_load.Goals as goal

pub returns : goal.returns
returns c = states_load
