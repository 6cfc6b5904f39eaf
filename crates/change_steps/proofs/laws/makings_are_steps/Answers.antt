use Rattle.change_steps.proofs.Making.{makings_are_steps}
use Rattle.change_steps.proofs.laws.makings_are_steps.Goals as goal

pub returns : goal.returns
returns c = makings_are_steps
