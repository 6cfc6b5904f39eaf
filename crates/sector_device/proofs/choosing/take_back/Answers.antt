use Rattle.std.proofs.Common.{◌/◌, length, arith}
use Rattle.sector_device.specs.Sectors.{sectors_of}
use Rattle.sector_device.proofs.Leaving.{one_inside, one_back}
use Rattle.sector_device.proofs.choosing.take_back.Goals as goal

pub loop-left-preserved : goal.loop-left-preserved
loop-left-preserved c = record {
  from = omega (arith, c.loop-left-test.true);
  short = omega (arith, c.loop-left.invariant.short);
  inside = (one_inside (length c.args.image.now / 512) c.loop-left.left c.args.done.now c.index-done-left.result (omega (arith, c.loop-left-test.true)) c.loop-left.invariant.short c.index-done-left.is c.loop-left.invariant.inside).1;
  back = one_back c.loop-left.left c.args.done.now c.index-done-left.result (sectors_of c.args.image.now) (sectors_of c.loop-left.image) (sectors_of c.take_call.new.image) (omega (arith, c.loop-left-test.true)) c.loop-left.invariant.short c.index-done-left.is c.loop-left.invariant.back c.take_call.ensures;
}
