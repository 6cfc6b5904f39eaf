use Rattle.same_names.proofs.Naming.{tell_same}
use Rattle.same_names.proofs.laws.same_names.Goals as goal

pub returns : goal.returns
returns c = tell_same
