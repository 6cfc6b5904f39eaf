use Rattle.std.proofs.Common.{rules}
use Rattle.tree_lookup.proofs.Replying.{bad_read_known, refused_read_known, told_read_known}
use Rattle.tree_lookup.proofs.answering.read.Goals as goal

pub returns-then-has_bad_part-clause-value : goal.returns-then-has_bad_part-clause-value
returns-then-has_bad_part-clause-value g c = bad_read_known (g.L.Lookup.tree c.args.tree.now) (g.L.Lookup.upper c.args.tree.now) c.args.path.now c.args.offset c.args.count (search rules)

pub returns-in-Ok-clause-value : goal.returns-in-Ok-clause-value
returns-in-Ok-clause-value g c =
    told_read_known (g.L.Lookup.tree c.args.tree.now) (g.L.Lookup.upper c.args.tree.now) c.args.path.now c.args.offset c.args.count c.in-Ok.node c.read_there.result (search rules) (rw c.in-Ok.is at (rw c.as_slice-2.ensures at c.in_ok-node.ensures.value))
    (rw c.in_ok-node.ensures.asks.same at c.read_there.ensures.value)

pub returns-in-Err-clause-value : goal.returns-in-Err-clause-value
returns-in-Err-clause-value g c =
    refused_read_known (g.L.Lookup.tree c.args.tree.now) (g.L.Lookup.upper c.args.tree.now) c.args.path.now c.args.offset c.args.count c.in-Err.reply (search rules) (rw c.in-Err.is at (rw c.as_slice-2.ensures at c.in_ok-node.ensures.value))
