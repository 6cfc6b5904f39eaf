use Rattle.plan_informed.proofs.Valuing.{value_rewrites}
use Rattle.plan_informed.proofs.laws.valued_rewrites.Goals as goal

pub returns : goal.returns
returns c = value_rewrites
