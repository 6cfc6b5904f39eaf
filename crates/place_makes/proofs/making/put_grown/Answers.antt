use Rattle.std.proofs.Common.{arith}
use Rattle.place_makes.proofs.Joins.{on_ok, grown_nodes}
use Rattle.place_makes.proofs.making.put_grown.Goals as goal

pub returns-clause-put : goal.returns-clause-put
returns-clause-put g c =
    on_ok c.put_timed.result _ _
    (grown_nodes (g.V.View.content c.args.draft.now.view.now) (g.B.FreeBits.bits c.args.bits.now) c.args.streams.now c.args.numbers.now c.args.made.now c.args.file.now c.in_ok-grown.grown c.args.nodes c.args.root c.len-more.result
    c.args.draft.now.touched.items c.grow_as_counted.new.draft.touched.items c.put_timed.new.draft.touched.items c.requires.root (let is = c.len-more.ensures in let ok = c.args.nodes.taken.ok in omega (arith, is, ok)) c.requires.some c.in_ok-grown.ensures.put)
    (rw c.in_ok-grown.ensures.asks.same at c.put_timed.ensures.put)
