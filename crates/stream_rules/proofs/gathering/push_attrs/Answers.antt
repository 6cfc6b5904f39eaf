use Rattle.stream_rules.proofs.FileRuns.{attr_more}
use Rattle.stream_rules.proofs.gathering.push_attrs.Goals as goal

pub loop-attr-preserved : goal.loop-attr-preserved
loop-attr-preserved c = attr_more c.args.attrs.now c.loop-attr.attr-index c.attr-item.result c.loop-attr.out c.push_runs.new.out _ c.loop-attr-test.true c.attr-item.is c.in_ok-push_runs.ensures c.loop-attr.invariant
