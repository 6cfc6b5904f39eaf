use Rattle.made_steps.proofs.Refusing.{not_made}
use Rattle.made_steps.proofs.laws.not_made_is_step.Goals as goal

pub returns : goal.returns
returns c = not_made c.found_is_there.ensures c.makings_are_steps.ensures
