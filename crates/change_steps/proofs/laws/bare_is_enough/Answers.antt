use Rattle.change_steps.proofs.Readying.{bare_is_enough}
use Rattle.change_steps.proofs.laws.bare_is_enough.Goals as goal

pub returns : goal.returns
returns c = bare_is_enough
