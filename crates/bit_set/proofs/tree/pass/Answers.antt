use Rattle.std.proofs.Common.{◌+◌, ◌-◌, ◌*◌, refl, inr, arith}
use Rattle.bit_set.proofs.Trees.{summary_at}
use Rattle.bit_set.proofs.tree.pass.Goals as goal

pub returns-clause-met : goal.returns-clause-met
returns-clause-met c = λ f from there met.
    let here = there (omega (arith, c.blocks_in.ensures)) (inr (omega arith)) in
    let right = summary_at f c.args.tree.now c.place_of.result (2 * c.args.start + c.args.size - 1) c.args.met.to (1024 * c.args.start) (1024 * (c.args.start + c.args.size)) (1024 * (c.args.start + c.args.size)) c.place_of.ensures (omega arith) refl here in
    record {
      runs = c.merge-runs.ensures f from (1024 * (c.args.start + c.args.size)) met.runs right;
      lowest = λ long. absurd (omega arith);
    }
