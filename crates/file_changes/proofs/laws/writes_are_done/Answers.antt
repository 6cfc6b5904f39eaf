use Rattle.file_changes.proofs.Joined.{joined}
use Rattle.file_changes.proofs.laws.writes_are_done.Goals as goal

pub returns : goal.returns
returns c = joined c.values_are_done.ensures c.shorter_are_done.ensures c.cuts_are_done.ensures c.longer_is_done.ensures c.growth_is_done.ensures c.leaving_is_done.ensures
