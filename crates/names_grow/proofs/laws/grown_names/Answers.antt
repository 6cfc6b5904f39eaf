use Rattle.names_grow.proofs.Telling.{grown_tell}
use Rattle.names_grow.proofs.laws.grown_names.Goals as goal

pub returns : goal.returns
returns c = grown_tell c.made_names.ensures c.same_names.ensures
