use Rattle.std.proofs.Common.{arith}
use Rattle.map_change.proofs.Resizing.{filled_more}
use Rattle.map_change.proofs.applying.fill_files.Goals as goal

pub loop-files-preserved : goal.loop-files-preserved
loop-files-preserved c = record {
  items = filled_more c.loop-files.files.items c.push_none.new.files.items _ c.args.count (omega (arith, c.loop-files-test.true, c.count_files.ensures)) c.push_none.ensures.items c.loop-files.invariant.items;
  room = omega (arith, c.loop-files.invariant.room, c.push_none.ensures.room);
}
