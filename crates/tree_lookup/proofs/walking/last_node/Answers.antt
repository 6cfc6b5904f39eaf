use Rattle.std.proofs.Common.{Some, None}
use Rattle.tree_lookup.proofs.Ways.{last_known}
use Rattle.tree_lookup.proofs.walking.last_node.Goals as goal

pub returns-in-Some-clause-value : goal.returns-in-Some-clause-value
returns-in-Some-clause-value g c = last_known (g.L.Lookup.tree c.args.tree.now) c.args.number c.args.parts (Some c.in-Some.node) (rw c.in-Some.is at c.in_ok-node.ensures.value)

pub returns-in-None-clause-value : goal.returns-in-None-clause-value
returns-in-None-clause-value g c = last_known (g.L.Lookup.tree c.args.tree.now) c.args.number c.args.parts None (rw c.in-None.is at c.in_ok-node.ensures.value)
