use Rattle.names_grow.proofs.Told.{told}
use Rattle.names_grow.proofs.laws.more_is_told.Goals as goal

pub returns : goal.returns
returns c = told
