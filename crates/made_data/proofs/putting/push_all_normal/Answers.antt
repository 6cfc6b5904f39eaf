use Rattle.data_plan.proofs.draft_records.Written.{normal_more}
use Rattle.made_data.proofs.putting.push_all_normal.Goals as goal

pub loop-attr-preserved : goal.loop-attr-preserved
loop-attr-preserved c = normal_more c.args.to.now c.args.attrs.now c.loop-attr.attr-index c.attr-item.result c.loop-attr.to c.push_normal.new.to c.loop-attr-test.true c.attr-item.is c.loop-attr.invariant c.in_ok-push_normal.ensures
