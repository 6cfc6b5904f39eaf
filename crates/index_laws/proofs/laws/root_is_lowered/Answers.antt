use Rattle.index_laws.proofs.Adding.{root_lowered}
use Rattle.index_laws.proofs.laws.root_is_lowered.Goals as goal

pub returns : goal.returns
returns c = root_lowered
