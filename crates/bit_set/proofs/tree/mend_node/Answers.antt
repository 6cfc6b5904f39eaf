use Rattle.std.proofs.Common.{◌+◌, ◌-◌, ◌*◌, refl, arith}
use Rattle.bit_set.proofs.Trees.{summary_at, summary_put}
use Rattle.bit_set.proofs.tree.mend_node.Goals as goal

pub returns-clause-mended : goal.returns-clause-mended
returns-clause-mended c = λ f fits left right.
    let low = summary_at f c.args.tree.now c.place_of.result (2 * c.args.start + c.args.half - 1) (1024 * c.args.start) (1024 * c.args.start) (1024 * (c.args.start + c.args.half)) (1024 * (c.args.start + c.args.half)) c.place_of.ensures refl refl left in
    let high = summary_at f c.args.tree.now c.place_of-2.result (2 * (c.args.start + c.args.half) + c.args.half - 1) (1024 * (c.args.start + c.args.half)) (1024 * (c.args.start + c.args.half)) (1024 * (c.args.start + (c.args.half + c.args.half))) (1024 * (c.args.start + c.args.half + c.args.half)) c.place_of-2.ensures refl (omega arith) right in
    summary_put f c.args.tree.now c.place_of-3.result (2 * c.args.start + (c.args.half + c.args.half) - 1) (1024 * c.args.start) (1024 * (c.args.start + (c.args.half + c.args.half))) c.merge.result c.place_of-3.ensures (omega (arith, c.place_of-3.ensures)) (c.merge.ensures f (1024 * c.args.start) (1024 * (c.args.start + (c.args.half + c.args.half))) low high)
