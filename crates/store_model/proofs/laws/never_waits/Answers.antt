use Rattle.store_model.proofs.Refinement.{never_waits_law}
use Rattle.store_model.proofs.laws.never_waits.Goals as goal

pub returns : goal.returns
returns c = never_waits_law
