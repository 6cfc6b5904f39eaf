use Rattle.usn_record.proofs.Appended.{unit_pushed, no_unit}
use Rattle.usn_record.proofs.writing.push_units.Goals as goal

pub loop-unit-init : goal.loop-unit-init
loop-unit-init c = no_unit c.args.out.now.items c.args.units.now

pub loop-unit-preserved : goal.loop-unit-preserved
loop-unit-preserved c = unit_pushed c.args.out.now.items c.loop-unit.out.items _ c.args.units.now c.loop-unit.unit-index c.loop-unit-test.true c.loop-unit.invariant c.in_ok-push_unit.ensures
