use Rattle.names_stay.proofs.Behind.{lists_kept}
use Rattle.names_stay.proofs.laws.writes_keep_lists.Goals as goal

pub returns : goal.returns
returns c = lists_kept c.made_is_counted.ensures
