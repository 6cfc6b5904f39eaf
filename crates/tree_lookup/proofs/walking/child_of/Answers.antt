use Rattle.std.proofs.Common.{◌+◌, Some, None}
use Rattle.tree_lookup.proofs.Ways.{child_known}
use Rattle.tree_lookup.proofs.walking.child_of.Goals as goal

pub returns-in-Some-clause-value : goal.returns-in-Some-clause-value
returns-in-Some-clause-value g c =
    child_known (g.L.Lookup.tree c.args.tree.now) (g.L.Lookup.upper c.args.tree.now) c.args.directory c.args.part.now (c.args.at + 1) (Some c.in-Some.link) (rw c.in-Some.is at c.in_ok-link.ensures.value)

pub returns-in-None-clause-value : goal.returns-in-None-clause-value
returns-in-None-clause-value g c = child_known (g.L.Lookup.tree c.args.tree.now) (g.L.Lookup.upper c.args.tree.now) c.args.directory c.args.part.now (c.args.at + 1) None (rw c.in-None.is at c.in_ok-link.ensures.value)
