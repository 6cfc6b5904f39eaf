use Rattle.std.proofs.Common.{sym, ◌∙◌}
use Rattle.file_writes.proofs.Joins.{shorter_sized, longer_sized}
use Rattle.file_writes.proofs.writing.put_sized.Goals as goal

pub returns-then-shrinks-clause-put : goal.returns-then-shrinks-clause-put
returns-then-shrinks-clause-put g c =
    shorter_sized (g.V.View.content c.args.draft.now.view.now) c.args.streams.now c.args.number c.args.op.now c.args.node.now c.args.stamp c.args.resized.now c.args.draft.now.touched.items _ (sym c.shrinks.ensures ∙ c.if-shrinks.true) c.in_ok-put_shorter.ensures.put

pub returns-clause-put : goal.returns-clause-put
returns-clause-put g c =
    longer_sized (g.V.View.content c.args.draft.now.view.now) c.args.streams.now c.args.number c.args.op.now c.args.node.now c.args.stamp c.args.resized.now c.args.draft.now.touched.items _ (sym c.shrinks.ensures ∙ c.if-shrinks.false) c.in_ok-put_sizes.ensures.put
