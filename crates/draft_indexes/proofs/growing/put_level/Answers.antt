use Rattle.std.proofs.Common.{◌∙◌}
use Rattle.draft_indexes.proofs.Joining.{level_put}
use Rattle.draft_indexes.proofs.growing.put_level.Goals as goal

pub returns-clause-put : goal.returns-clause-put
returns-clause-put g c =
    level_put (g.V.View.content c.args.draft.now.view.now) c.args.per c.args.bitmap.now c.args.table.now c.args.mirror.now c.args.number c.args.raised.now c.args.first c.args.count c.args.node.now c.args.draft.now.touched.items _ _ _
    c.in_ok-put_resized.ensures.put (rw c.in_ok-put_resized.ensures.asks.same at c.in_ok-put_block.ensures.touched) (rw (c.in_ok-put_block.ensures.asks.same ∙ c.in_ok-put_resized.ensures.asks.same) at c.in_ok-put_empty_blocks.ensures.touched)
