use Rattle.bit_set.proofs.summary.scan.Goals as goal

pub loop-met-preserved : goal.loop-met-preserved
loop-met-preserved c = record {
  order = c.step-met.ensures.order;
  met = λ from met. c.step-met.ensures.met from (c.loop-met.invariant.met from met);
}
