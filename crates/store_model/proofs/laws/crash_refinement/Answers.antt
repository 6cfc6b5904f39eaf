use Rattle.store_model.proofs.Refinement.{crash_refinement_law}
use Rattle.store_model.proofs.laws.crash_refinement.Goals as goal

pub returns : goal.returns
returns c = crash_refinement_law
