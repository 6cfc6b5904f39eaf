use Rattle.store_model.proofs.Moving.{windows_move_law}
use Rattle.store_model.proofs.laws.windows_move.Goals as goal

pub returns : goal.returns
returns c = windows_move_law
