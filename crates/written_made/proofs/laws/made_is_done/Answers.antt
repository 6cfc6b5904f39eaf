use Rattle.written_made.proofs.Doing.{made_done}
use Rattle.written_made.proofs.laws.made_is_done.Goals as goal

pub returns : goal.returns
returns c = made_done c.made_is_counted.ensures c.values_are_done.ensures c.leaving_is_done.ensures
