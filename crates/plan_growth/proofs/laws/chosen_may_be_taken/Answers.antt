use Rattle.plan_growth.proofs.Choosing.{may_be_taken}
use Rattle.plan_growth.proofs.laws.chosen_may_be_taken.Goals as goal

pub returns : goal.returns
returns c = may_be_taken
