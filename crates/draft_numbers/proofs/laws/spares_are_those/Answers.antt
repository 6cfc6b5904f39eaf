use Rattle.draft_numbers.proofs.Spares.{spares}
use Rattle.draft_numbers.proofs.laws.spares_are_those.Goals as goal

pub returns : goal.returns
returns c = spares
