use Rattle.std.proofs.Common.{◌+◌, length, arith}
use Rattle.place_raises.proofs.Puts.{on_ok, level_put}
use Rattle.place_raises.proofs.making.put_level.Goals as goal

pub returns-clause-put : goal.returns-clause-put
returns-clause-put g c =
    on_ok c.put_behind.result _ _
    (level_put (g.V.View.content c.args.draft.now.view.now) (g.B.FreeBits.bits c.args.bits.now) c.args.streams.now c.args.numbers.now c.args.up.now c.args.made.now c.args.file.now c.in_ok-raised.raised c.args.plan.now.level.root c.args.plan.now.level.node c.deref.result.now c.args.plan.now.fresh.items
    (1 + c.len-taken.result) (1 + length c.args.plan.now.nodes.taken.items) c.args.draft.now.touched.items c.raise_as_counted.new.draft.touched.items c.put_behind.new.draft.touched.items c.deref.ensures.value (let is = c.len-taken.ensures in let ok = c.args.plan.now.nodes.taken.ok in omega (arith, is, ok)) c.in_ok-raised.ensures.put)
    (rw c.in_ok-raised.ensures.asks.same at c.put_behind.ensures.put)
