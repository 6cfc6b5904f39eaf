use Rattle.std.proofs.Common.{sym, ◌∙◌}
use Rattle.std_values.proofs.Putting.{unit_put, no_unit_put}
use Rattle.std_values.proofs.bytes.put_units.Goals as goal

pub loop-i-init : goal.loop-i-init
loop-i-init c = sym (no_unit_put c.args.at c.args.units.now c.args.bytes.now)

pub loop-i-preserved : goal.loop-i-preserved
loop-i-preserved c = c.put_u16.ensures ∙ unit_put c.args.at c.loop-i.i c.args.units.now c.args.bytes.now c.loop-i.bytes c.loop-i-test.true c.loop-i.invariant
