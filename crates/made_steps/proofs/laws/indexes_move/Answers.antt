use Rattle.made_steps.proofs.Timing.{indexes_move}
use Rattle.made_steps.proofs.laws.indexes_move.Goals as goal

pub returns : goal.returns
returns c = indexes_move
