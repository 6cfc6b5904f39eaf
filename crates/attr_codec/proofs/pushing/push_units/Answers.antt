use Rattle.attr_codec.proofs.Pushed.{unit_pushed, no_unit}
use Rattle.attr_codec.proofs.pushing.push_units.Goals as goal

pub loop-unit-init : goal.loop-unit-init
loop-unit-init c = no_unit c.args.out.now.items c.args.units.now

pub loop-unit-preserved : goal.loop-unit-preserved
loop-unit-preserved c = unit_pushed c.args.out.now.items c.loop-unit.out.items _ c.args.units.now c.loop-unit.unit-index c.loop-unit-test.true c.loop-unit.invariant c.in_ok-push_u16.ensures
