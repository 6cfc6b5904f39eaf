use Rattle.plan_model.proofs.Quiet.{given_here, given_before, given_clear}
use Rattle.plan_model.proofs.laws.runs_given.Goals as goal

pub returns : goal.returns
returns c = record { here = given_here; before = given_before; clear = given_clear }
