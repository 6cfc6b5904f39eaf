use Rattle.std.proofs.Common.{Some, None, sym, ◌∙◌}
use Rattle.stream_rules.proofs.Overlaps.{found_shared, overlap_here, overlap_none}
use Rattle.stream_rules.proofs.sharing.least_shared.Goals as goal

pub returns-then-place-end : goal.returns-then-place-end
returns-then-place-end c = found_shared c.args.places.now (Some _) (sym (overlap_here c.loop-place.end c.args.places.now c.loop-place.place-index _ c.loop-place-test.true c.if-place-end.true) ∙ c.loop-place.invariant) c.requires.some c.requires.rising

pub returns : goal.returns
returns c = found_shared c.args.places.now None (sym (overlap_none c.loop-place.end c.args.places.now c.loop-place.place-index c.loop-place-test.false) ∙ c.loop-place.invariant) c.requires.some c.requires.rising
