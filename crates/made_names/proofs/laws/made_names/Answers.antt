use Rattle.made_names.proofs.Telling.{names_tell}
use Rattle.made_names.proofs.laws.made_names.Goals as goal

pub returns : goal.returns
returns c = names_tell c.ways_kept.ensures c.ways_are_short.ensures
