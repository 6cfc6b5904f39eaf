use Rattle.tree_laws.proofs.Holding.{tree_holds, tree_replaced, room_now}
use Rattle.tree_laws.proofs.laws.tree_replaced.Goals as goal

pub returns : goal.returns
returns c = record { holds = tree_holds; tree = tree_replaced; room = room_now }
