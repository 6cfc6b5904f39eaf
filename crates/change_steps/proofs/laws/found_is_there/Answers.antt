use Rattle.change_steps.proofs.Finding.{found_is_there}
use Rattle.change_steps.proofs.laws.found_is_there.Goals as goal

pub returns : goal.returns
returns c = found_is_there
