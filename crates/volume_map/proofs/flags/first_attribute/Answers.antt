use Rattle.std.proofs.Common.{arith}
use Rattle.volume_map.proofs.Firsts.{step_first}
use Rattle.volume_map.proofs.flags.first_attribute.Goals as goal

pub loop-attr-preserved : goal.loop-attr-preserved
loop-attr-preserved c = step_first c.args.kind c.args.name.now c.args.attrs.now c.loop-attr.attr-index _ _ _ (omega arith) c.attr-item.is c.loop-attr.invariant c.with_attr-found.ensures
