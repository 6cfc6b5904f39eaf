use Rattle.stream_map.proofs.Joining.{joined_more}
use Rattle.stream_map.proofs.stream.joined_runs.Goals as goal

pub loop-attribute-preserved : goal.loop-attribute-preserved
loop-attribute-preserved c = joined_more c.args.attributes.now c.loop-attribute.attribute-index c.attribute-item.result c.loop-attribute.runs c.push_runs.new.out _ c.loop-attribute-test.true c.attribute-item.is c.in_ok-push_runs.ensures c.loop-attribute.invariant
