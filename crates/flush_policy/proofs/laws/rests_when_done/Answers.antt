use Rattle.flush_policy.proofs.Steps.{rests_only_when_done}
use Rattle.flush_policy.proofs.laws.rests_when_done.Goals as goal

pub returns : goal.returns
returns c = rests_only_when_done
