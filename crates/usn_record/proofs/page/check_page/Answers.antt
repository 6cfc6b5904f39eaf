use Rattle.std.proofs.Common.{ℕ, ◌+◌, ◌%◌, length, take, sym, ap, ◌∙◌, arith}
use Rattle.std.proofs.lemmas.List.{length-drop, length-take}
use Rattle.std.proofs.lemmas.Result.{err_from_is_err_and}
use Rattle.journal_model.specs.UsnRecords.{page_size}
use Rattle.journal_model.specs.Pages.{records_of}
use Rattle.usn_record.proofs.Walked.{no_entries, check_begun, checked_on, check_ended, checked_wrong}
use Rattle.usn_record.proofs.page.check_page.Goals as goal

pub loop-rest-init : goal.loop-rest-init
loop-rest-init c = record {
  inside = omega (arith, ap length c.from_offset-rest.ensures, length-drop (c.args.at % page_size) (take page_size c.args.page.now), length-take page_size c.args.page.now);
  checked = check_begun c.args.page.now c.from_offset-rest.result.now c.args.at c.from_offset-rest.ensures;
}

pub returns-in_err-length : goal.returns-in_err-length
returns-in_err-length c =
    let p = err_from_is_err_and c.from_residual.result c.from_residual.ensures.1 in
    rw (p.1, p.2) (record { value = checked_wrong c.loop-rest.rest.now c.loop-rest.place _ _ (sym c.all_zeros.ensures ∙ c.loop-rest-test.true) c.in_err-length.ensures.value c.loop-rest.invariant.checked; memory = c.in_err-length.ensures.memory })

pub loop-rest-preserved : goal.loop-rest-preserved
loop-rest-preserved c = record {
  inside = omega (arith, c.split_at.ensures.back_len, c.in_ok-length.ensures.inside.1, c.from-place.ensures);
  checked =
      ap (λ (k : ℕ). no_entries (records_of c.split_at.result.1.now (c.loop-rest.place + k))) c.from-place.ensures
      ∙ checked_on c.loop-rest.rest.now c.split_at.result.1.now c.loop-rest.place c.in_ok-length.length _ (sym c.all_zeros.ensures ∙ c.loop-rest-test.true) c.in_ok-length.ensures.value c.split_at.ensures.back c.loop-rest.invariant.checked;
}

pub returns : goal.returns
returns c = record { value = check_ended c.loop-rest.rest.now c.loop-rest.place _ (sym c.all_zeros.ensures ∙ c.loop-rest-test.false) c.loop-rest.invariant.checked; memory = tt }
