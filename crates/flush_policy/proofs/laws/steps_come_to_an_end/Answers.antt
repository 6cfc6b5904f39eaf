use Rattle.flush_policy.proofs.Steps.{leaves_less}
use Rattle.flush_policy.proofs.laws.steps_come_to_an_end.Goals as goal

pub returns : goal.returns
returns c = leaves_less
