use Rattle.std.proofs.Common.{◌≡◌, ◌<◌, List, length, subst, sym, arith}
use Rattle.record_model.specs.declared.entry.Entry.{Entry as Raw}
use Rattle.index_plan.proofs.Ways.{stop_inside}
use Rattle.index_plan.proofs.descent.stop.Goals as goal

pub returns-clause-value : goal.returns-clause-value
returns-clause-value g c =
    let lent : c.as_slice-entries.result.now ≡ c.args.node.now = c.as_slice-entries.ensures in
    let some : 0 < length c.as_slice-entries.result.now = subst (λ (l : List Raw). 0 < length l) (sym lent) c.requires in
    let inside = stop_inside (g.T.Test.goes c.args.test.now) c.as_slice-entries.result.now some in
    let kept = c.loop-i.invariant in
    absurd (omega arith)
