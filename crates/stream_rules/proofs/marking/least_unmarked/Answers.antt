use Rattle.std.proofs.Common.{Some, None, sym, ◌∙◌}
use Rattle.stream_rules.proofs.Clear.{found_unmarked, unmarked_here, unmarked_none}
use Rattle.stream_rules.proofs.marking.least_unmarked.Goals as goal

pub returns-then-clear-place : goal.returns-then-clear-place
returns-then-clear-place c = found_unmarked c.args.bits.now c.args.places.now (Some c.clear_from-clear.result) (sym (unmarked_here c.args.bits.now c.loop-place.clear c.clear_from-clear.result c.args.places.now c.loop-place.place-index _ c.loop-place-test.true c.clear_from-clear.ensures c.if-clear-place.true) ∙ c.loop-place.invariant) c.requires.below c.requires.rising

pub returns : goal.returns
returns c = found_unmarked c.args.bits.now c.args.places.now None (sym (unmarked_none c.args.bits.now c.loop-place.clear c.args.places.now c.loop-place.place-index c.loop-place-test.false) ∙ c.loop-place.invariant) c.requires.below c.requires.rising
