use Rattle.std.proofs.Common.{ℕ, ◌+◌, ◌%◌, length, take, sym, ap, ◌∙◌, arith}
use Rattle.std.proofs.lemmas.List.{length-drop, length-take}
use Rattle.std.proofs.lemmas.Result.{err_from_is_err_and}
use Rattle.journal_model.specs.UsnRecords.{page_size}
use Rattle.journal_model.specs.Pages.{records_of}
use Rattle.usn_record.proofs.Walked.{with_front, begun, went_on, ended, went_wrong}
use Rattle.usn_record.proofs.page.read_page.Goals as goal

pub loop-rest-init : goal.loop-rest-init
loop-rest-init c = record {
  inside = omega (arith, ap length c.from_offset-rest.ensures, length-drop (c.args.at % page_size) (take page_size c.args.page.now), length-take page_size c.args.page.now);
  read = begun c.new-entries.result c.args.page.now c.from_offset-rest.result.now c.args.at c.new-entries.ensures c.from_offset-rest.ensures;
}

pub returns-in_err-entry : goal.returns-in_err-entry
returns-in_err-entry c =
    let p = err_from_is_err_and c.from_residual.result c.from_residual.ensures.1 in
    rw (p.1, p.2) (record { value = went_wrong c.loop-rest.entries c.loop-rest.rest.now c.loop-rest.place _ _ (sym c.all_zeros.ensures ∙ c.loop-rest-test.true) c.in_err-entry.ensures.value c.loop-rest.invariant.read })

pub loop-rest-preserved : goal.loop-rest-preserved
loop-rest-preserved c = record {
  inside = omega (arith, c.split_at.ensures.back_len, c.in_ok-entry.ensures.inside.1, c.from-place.ensures);
  read =
      ap (λ (k : ℕ). with_front c.keep.new.entries (records_of c.split_at.result.1.now (c.loop-rest.place + k))) c.from-place.ensures
      ∙ went_on c.loop-rest.entries c.keep.new.entries c.loop-rest.rest.now c.split_at.result.1.now c.loop-rest.place c.in_ok-entry.length c.in_ok-entry.entry _ (sym c.all_zeros.ensures ∙ c.loop-rest-test.true) c.in_ok-entry.ensures.value c.in_ok-keep.ensures c.split_at.ensures.back c.loop-rest.invariant.read;
}

pub returns : goal.returns
returns c = record { value = ended c.loop-rest.entries c.loop-rest.rest.now c.loop-rest.place _ (sym c.all_zeros.ensures ∙ c.loop-rest-test.false) c.loop-rest.invariant.read }
