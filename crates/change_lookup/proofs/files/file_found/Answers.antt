use Rattle.std.proofs.Common.{rules}
use Rattle.change_lookup.proofs.Coming.{file_bad, file_ends, file_found_known}
use Rattle.change_lookup.proofs.files.file_found.Goals as goal

pub returns-then-has_bad_part-clause-value : goal.returns-then-has_bad_part-clause-value
returns-then-has_bad_part-clause-value g c = file_bad (g.C.Lookup.tree c.args.tree.now) (g.C.Lookup.upper c.args.tree.now) c.args.path.now c.args.op.now (search rules)

pub returns-in-Ok-clause-value : goal.returns-in-Ok-clause-value
returns-in-Ok-clause-value g c =
    file_found_known (g.C.Lookup.tree c.args.tree.now) (g.C.Lookup.upper c.args.tree.now) c.args.path.now c.args.op.now c.in-Ok.node c.changed_there.result (search rules) (rw c.in-Ok.is at c.in_ok-node.ensures.value)
    (rw c.in_ok-node.ensures.asks.same at c.changed_there.ensures.value)

pub returns-in-Err-clause-value : goal.returns-in-Err-clause-value
returns-in-Err-clause-value g c = file_ends (g.C.Lookup.tree c.args.tree.now) (g.C.Lookup.upper c.args.tree.now) c.args.path.now c.args.op.now c.in-Err.reply (search rules) (rw c.in-Err.is at c.in_ok-node.ensures.value)
