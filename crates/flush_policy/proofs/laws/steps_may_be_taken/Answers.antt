use Rattle.flush_policy.proofs.Steps.{may_be_taken}
use Rattle.flush_policy.proofs.laws.steps_may_be_taken.Goals as goal

pub returns : goal.returns
returns c = may_be_taken
