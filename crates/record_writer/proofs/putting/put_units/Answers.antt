use Rattle.record_writer.proofs.Pieces.{no_unit_put, unit_put}
use Rattle.record_writer.proofs.putting.put_units.Goals as goal

pub loop-i-init : goal.loop-i-init
loop-i-init c = no_unit_put c.args.at c.args.units.now c.args.out.now

pub loop-i-preserved : goal.loop-i-preserved
loop-i-preserved c = unit_put c.args.at c.loop-i.i c.args.units.now c.args.out.now c.loop-i.out c.put_u16.new.bytes c.loop-i-test.true c.loop-i.invariant c.put_u16.ensures
