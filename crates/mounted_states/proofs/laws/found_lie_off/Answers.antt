use Rattle.mounted_states.proofs.Calls.{lie_off}
use Rattle.mounted_states.proofs.laws.found_lie_off.Goals as goal

pub returns : goal.returns
returns c = lie_off c.mounts_hold_states.ensures
