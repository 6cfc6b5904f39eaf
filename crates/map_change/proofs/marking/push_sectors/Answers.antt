use Rattle.std.proofs.Common.{◌∙◌, arith}
use Rattle.map_change.proofs.Marked.{sectors_next}
use Rattle.map_change.proofs.marking.push_sectors.Goals as goal

pub loop-sector-preserved : goal.loop-sector-preserved
loop-sector-preserved g c = record {
  tell = sectors_next _ c.args.per c.args.stream.now c.args.count c.args.sectors.now c.loop-sector.sector-index _ c.loop-sector.runs.items c.push_sector.new.runs.items (omega (arith, c.loop-sector-test.true)) c.loop-sector.invariant.tell
      (rw c.loop-sector.invariant.kept.same at c.in_ok-push_sector.ensures.value);
  kept = record {
    same = c.in_ok-push_sector.ensures.kept.same ∙ c.loop-sector.invariant.kept.same;
    stays = c.in_ok-push_sector.ensures.kept.stays ∙ c.loop-sector.invariant.kept.stays;
    later = omega (arith, c.loop-sector.invariant.kept.later, c.in_ok-push_sector.ensures.kept.later);
  };
  counted = c.in_ok-push_sector.ensures.kept.counted ∙ c.loop-sector.invariant.counted;
  room = c.in_ok-push_sector.ensures.room;
}
