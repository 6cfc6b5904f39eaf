use Rattle.index_laws.proofs.Adding.{level_needed}
use Rattle.index_laws.proofs.laws.level_needed.Goals as goal

pub returns : goal.returns
returns c = level_needed
