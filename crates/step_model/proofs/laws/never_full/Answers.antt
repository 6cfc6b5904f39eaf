use Rattle.step_model.proofs.NeverFull.{never_full}
use Rattle.step_model.proofs.laws.never_full.Goals as goal

pub returns : goal.returns
returns c = never_full
