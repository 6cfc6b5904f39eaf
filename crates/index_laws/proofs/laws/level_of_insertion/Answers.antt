use Rattle.index_laws.proofs.Adding.{level_added}
use Rattle.index_laws.proofs.laws.level_of_insertion.Goals as goal

pub returns : goal.returns
returns c = level_added
