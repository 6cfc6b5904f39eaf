use Rattle.names_stay.proofs.Holding.{still_held}
use Rattle.names_stay.proofs.laws.names_stay.Goals as goal

pub returns : goal.returns
returns c = still_held
