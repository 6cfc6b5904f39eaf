use Rattle.index_edits.proofs.Levels.{levels_read}
use Rattle.index_edits.proofs.laws.levels_are_read.Goals as goal

pub returns : goal.returns
returns c = levels_read
