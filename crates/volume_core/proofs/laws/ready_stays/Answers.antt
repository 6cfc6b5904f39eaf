use Rattle.volume_core.proofs.Staying.{ready_still}
use Rattle.volume_core.proofs.laws.ready_stays.Goals as goal

pub returns : goal.returns
returns c = ready_still c.needed_is_all.ensures
