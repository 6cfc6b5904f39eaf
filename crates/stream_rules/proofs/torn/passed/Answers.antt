use Rattle.std.proofs.Common.{None, get_or, refl, sym, ◌∙◌}
use Rattle.stream_map.specs.record_model.declared.runs.Run.{Run}
use Rattle.stream_rules.proofs.Passing.{passed_here}
use Rattle.stream_rules.proofs.torn.passed.Goals as goal

no_run : Run
no_run = record { vcn = 0; lcn = None; len = 0 }

pub loop-i-preserved : goal.loop-i-preserved
unfolding no_run
loop-i-preserved c = λ first last le. passed_here c.args.vcn c.args.runs.now c.loop-i.i no_run (get_or c.args.runs.now c.loop-i.i no_run) c.loop-i-test.true refl (sym c.ends_by.ensures ∙ c.if-not-ends_by.false) first last le ∙ c.loop-i.invariant first last le
