use Rattle.std.proofs.Common.{refl, arith}
use Rattle.std.proofs.lemmas.Result.{err_from_is_err_and}
use Rattle.state_model.specs.Loads.{table_slot}
use Rattle.volume_links.proofs.Scanned.{scan_begins, scan_stops, scan_ends}
use Rattle.volume_links.proofs.scanning.scan_table.Goals as goal

pub loop-number-init : goal.loop-number-init
loop-number-init g c = record {
  scanned = scan_begins _ c.args.per c.args.cut (λ content. table_slot content c.args.per c.args.extents.now) _ c.new.ensures.items refl;
  kept = record { same = refl; stays = refl; later = omega arith };
  counted = refl;
}

pub returns-in_err-step-clause-answer : goal.returns-in_err-step-clause-answer
returns-in_err-step-clause-answer g c =
    let p = err_from_is_err_and c.from_residual.result c.from_residual.ensures.1 in
    rw (p.1, p.2) (scan_ends _ c.args.per c.args.cut (λ content. table_slot content c.args.per c.args.extents.now) c.loop-number.number _ _ c.loop-number.scan c.step.new.scan (omega (arith, c.loop-number-test.true)) c.loop-number.invariant.scanned (rw c.loop-number.invariant.kept.same at c.in_err-step.ensures.answer))

pub returns-then-not-branch-clause-answer : goal.returns-then-not-branch-clause-answer
returns-then-not-branch-clause-answer g c =
    scan_stops _ c.args.per c.args.cut (λ content. table_slot content c.args.per c.args.extents.now) c.loop-number.number _ c.in_ok-step.field-0 _ c.step.new.scan (omega (arith, c.loop-number-test.true)) c.if-not-branch.true c.loop-number.invariant.scanned (rw c.loop-number.invariant.kept.same at c.in_ok-step.ensures.answer)
