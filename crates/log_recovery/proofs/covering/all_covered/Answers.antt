use Rattle.std.proofs.Common.{◌∙◌, arith}
use Rattle.log_recovery.proofs.Marking.{covered_more, all_marked}
use Rattle.log_recovery.proofs.covering.all_covered.Goals as goal

pub loop-entry-preserved : goal.loop-entry-preserved
loop-entry-preserved c = record {
  size = c.mark_act.ensures.size;
  marks = covered_more c.args.entries.now c.loop-entry.entry-index c.entry-item.result c.args.block c.loop-entry.marks c.mark_act.new.marks c.loop-entry-test.true c.entry-item.is c.mark_act.ensures.marks c.loop-entry.invariant.marks;
}

pub returns : goal.returns
returns c = c.are_all_marked.ensures ∙ all_marked c.args.entries.now c.loop-entry.entry-index c.args.block c.loop-entry.marks (omega arith) c.loop-entry.invariant.size c.loop-entry.invariant.marks
