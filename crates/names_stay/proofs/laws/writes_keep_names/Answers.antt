use Rattle.names_stay.proofs.Behind.{names_kept}
use Rattle.names_stay.proofs.laws.writes_keep_names.Goals as goal

pub returns : goal.returns
returns c = names_kept c.made_is_counted.ensures
