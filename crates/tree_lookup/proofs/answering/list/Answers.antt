use Rattle.std.proofs.Common.{rules}
use Rattle.tree_lookup.proofs.Ways.{directory_known}
use Rattle.tree_lookup.proofs.Replying.{bad_list_known, refused_list_known, told_list_known}
use Rattle.tree_lookup.proofs.answering.list.Goals as goal

pub returns-then-has_bad_part-clause-value : goal.returns-then-has_bad_part-clause-value
returns-then-has_bad_part-clause-value g c = bad_list_known (g.L.Lookup.tree c.args.tree.now) (g.L.Lookup.upper c.args.tree.now) c.args.path.now (search rules)

pub names_in-requires : goal.names_in-requires
names_in-requires g c =
    record { directory = rw c.in_ok-node.ensures.asks.same (directory_known (g.L.Lookup.tree c.args.tree.now) (g.L.Lookup.upper c.args.tree.now) c.args.path.now c.in-Ok.node (rw c.in-Ok.is at (rw c.as_slice-2.ensures at c.in_ok-node.ensures.value))) }

pub returns-in-Ok-clause-value : goal.returns-in-Ok-clause-value
returns-in-Ok-clause-value g c =
    told_list_known (g.L.Lookup.tree c.args.tree.now) (g.L.Lookup.upper c.args.tree.now) c.args.path.now c.in-Ok.node c.names_in.result (search rules) (rw c.in-Ok.is at (rw c.as_slice-2.ensures at c.in_ok-node.ensures.value))
    (rw c.in_ok-node.ensures.asks.same at (rw c.in_ok-node.ensures.asks.table at c.names_in.ensures.value))

pub returns-in-Err-clause-value : goal.returns-in-Err-clause-value
returns-in-Err-clause-value g c =
    refused_list_known (g.L.Lookup.tree c.args.tree.now) (g.L.Lookup.upper c.args.tree.now) c.args.path.now c.in-Err.reply (search rules) (rw c.in-Err.is at (rw c.as_slice-2.ensures at c.in_ok-node.ensures.value))
