use Rattle.tree_laws.proofs.Counting.{room_balance}
use Rattle.tree_laws.proofs.laws.room_counted.Goals as goal

pub returns : goal.returns
returns c = room_balance
