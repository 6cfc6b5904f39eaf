use Rattle.std.proofs.Common.{List, sym, ap, ◌∙◌, subst}
use Rattle.std.proofs.lemmas.Result.{IfOk-weaker}
use Rattle.log_recovery.specs.declared.own.Stretch.{Stretch}
use Rattle.log_recovery.specs.Own.{is_own, with_reach, AreSorted, StandFor}
use Rattle.log_recovery.proofs.Stretching.{sorted_stretches, stand_for, gathered_of}
use Rattle.log_recovery.proofs.own.stretches_of.Goals as goal

pub returns-clause-sorted : goal.returns-clause-sorted
returns-clause-sorted c =
    IfOk-weaker c.with_reach.result _ _
    (λ all is. subst AreSorted (sym (is ∙ ap (with_reach 0) c.deref.ensures.value)) (sorted_stretches c.sort_stretches.new.stretches.items c.sort_stretches.ensures.rising)) c.with_reach.ensures

pub returns-clause-same : goal.returns-clause-same
returns-clause-same c =
    let place = c.args.place.now in
    let kept = c.args.kept.now in
    let gathered = gathered_of place kept c.new-stretches.result.items c.push_runs.new.stretches.items c.push_blocks.new.stretches.items c.counted.result c.as_slice.result.now c.new-stretches.ensures.items c.counted.ensures c.as_slice.ensures c.in_ok-push_runs.ensures c.in_ok-push_blocks.ensures in
    IfOk-weaker c.with_reach.result _ _
    (λ all is. subst (λ (l : List Stretch). StandFor l (is_own place kept)) (sym (is ∙ ap (with_reach 0) c.deref.ensures.value))
    (stand_for place kept c.push_blocks.new.stretches.items c.sort_stretches.new.stretches.items gathered c.sort_stretches.ensures.same c.sort_stretches.ensures.rising)) c.with_reach.ensures
