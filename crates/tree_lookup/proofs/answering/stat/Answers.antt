use Rattle.std.proofs.Common.{rules}
use Rattle.tree_lookup.proofs.Replying.{bad_stat_known, refused_stat_known, told_stat_known}
use Rattle.tree_lookup.proofs.answering.stat.Goals as goal

pub returns-then-has_bad_part-clause-value : goal.returns-then-has_bad_part-clause-value
returns-then-has_bad_part-clause-value g c = bad_stat_known (g.L.Lookup.tree c.args.tree.now) (g.L.Lookup.upper c.args.tree.now) c.args.path.now (search rules)

pub returns-in-Ok-clause-value : goal.returns-in-Ok-clause-value
returns-in-Ok-clause-value g c =
    told_stat_known (g.L.Lookup.tree c.args.tree.now) (g.L.Lookup.upper c.args.tree.now) c.args.path.now c.in-Ok.node c.stat_of.result (search rules) (rw c.in-Ok.is at (rw c.as_slice-2.ensures at c.in_ok-node.ensures.value))
    (rw c.in_ok-node.ensures.asks.same at c.stat_of.ensures.value)

pub returns-in-Err-clause-value : goal.returns-in-Err-clause-value
returns-in-Err-clause-value g c =
    refused_stat_known (g.L.Lookup.tree c.args.tree.now) (g.L.Lookup.upper c.args.tree.now) c.args.path.now c.in-Err.reply (search rules) (rw c.in-Err.is at (rw c.as_slice-2.ensures at c.in_ok-node.ensures.value))
