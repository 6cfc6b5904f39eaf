use Rattle.std.proofs.Common.{length, ap, arith, ◌∙◌}
use Rattle.bit_set.proofs.Views.{is_view}
use Rattle.bit_set.proofs.Searches.{near}
use Rattle.bit_set.proofs.set.BitSet.lowest_near.Goals as goal

pub run_end-at-requires-clause-within : goal.run_end-at-requires-clause-within
run_end-at-requires-clause-within c = omega (arith, (is_view _ _ _ c.self.view_is).count, c.self.invariant.counted.room, ap length c.deref.ensures.value)

pub returns-then-end-from : goal.returns-then-end-from
returns-then-end-from c = λ i le lt inside. absurd (omega (arith, (is_view _ _ _ c.self.view_is).count, c.self.invariant.counted.fits, c.min-end.ensures, c.saturating_add.ensures))

pub returns-then-end-at : goal.returns-then-end-at
returns-then-end-at c = λ i le lt inside.
    let view = is_view _ _ _ c.self.view_is in
    let found = rw c.deref.ensures.value at c.run_end-at.ensures in
    view.inside i (omega (arith, view.count))
    ∙ found.same i le (omega (arith, view.count, c.self.invariant.counted.fits, c.min-end.ensures, c.saturating_add.ensures))

pub returns : goal.returns
returns c =
    let found = rw c.deref.ensures.value at c.run_end-at.ensures in
    near c.args.self.now c.self.inside.words.items c.self.inside.bits c.args.from c.min-end.result c.run_end-at.result (is_view _ _ _ c.self.view_is) (omega (arith, c.min-end.ensures)) found.order (omega arith) found.same (found.other (omega arith))
