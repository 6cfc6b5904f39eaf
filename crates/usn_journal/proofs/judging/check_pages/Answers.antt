use Rattle.std.proofs.Common.{◌∙◌, arith}
use Rattle.std.proofs.lemmas.Result.{err_from_is_err_and}
use Rattle.usn_journal.specs.JournalErrors.{journal_cause}
use Rattle.usn_journal.proofs.PagesLeft.{next_left, broken_left, none_left}
use Rattle.usn_journal.proofs.judging.check_pages.Goals as goal

pub returns-in_err-check_number-clause-value : goal.returns-in_err-check_number-clause-value
returns-in_err-check_number-clause-value g c =
    let p = err_from_is_err_and c.from_residual.result c.from_residual.ensures.1 in
    rw (p.1, p.2) (broken_left _ c.args.per c.args.extents.now c.args.first c.loop-number.number (journal_cause c.in_err-check_number.field-0.0) (omega arith) c.loop-number.invariant.left (rw c.loop-number.invariant.kept.same at c.in_err-check_number.ensures.value))

pub loop-number-preserved : goal.loop-number-preserved
loop-number-preserved g c = record {
  from = omega (arith, c.loop-number.invariant.from);
  left = next_left _ c.args.per c.args.extents.now c.args.first c.loop-number.number (omega arith) c.loop-number.invariant.left (rw c.loop-number.invariant.kept.same at c.in_ok-check_number.ensures.value);
  kept = record {
    same = c.in_ok-check_number.ensures.kept.same ∙ c.loop-number.invariant.kept.same;
    stays = c.in_ok-check_number.ensures.kept.stays ∙ c.loop-number.invariant.kept.stays;
    later = omega (arith, c.loop-number.invariant.kept.later, c.in_ok-check_number.ensures.kept.later);
  };
  counted = c.in_ok-check_number.ensures.kept.counted ∙ c.loop-number.invariant.counted;
}

pub returns-clause-value : goal.returns-clause-value
returns-clause-value g c = none_left _ c.args.per c.args.extents.now c.args.first c.loop-number.number (omega arith) c.loop-number.invariant.left
