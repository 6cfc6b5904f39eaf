use Rattle.std.proofs.Common.{◌∙◌, arith}
use Rattle.map_change.proofs.Applied.{read_next}
use Rattle.map_change.proofs.reading.read_records.Goals as goal

pub loop-number-preserved : goal.loop-number-preserved
loop-number-preserved g c = record {
  read = read_next _ c.args.per c.args.extents.now c.args.numbers.now c.loop-number.number-index _ c.loop-number.records.items c.push.new.records.items c.in_ok-found.found c.in-Some.change (omega (arith, c.loop-number-test.true)) c.in-Some.is c.loop-number.invariant.read (rw c.loop-number.invariant.kept.same at c.in_ok-found.ensures.value) c.in_ok-push-in-Some.ensures;
  kept = record {
    same = c.in_ok-found.ensures.kept.same ∙ c.loop-number.invariant.kept.same;
    stays = c.in_ok-found.ensures.kept.stays ∙ c.loop-number.invariant.kept.stays;
    later = omega (arith, c.loop-number.invariant.kept.later, c.in_ok-found.ensures.kept.later);
  };
  counted = c.in_ok-found.ensures.kept.counted ∙ c.loop-number.invariant.counted;
}
