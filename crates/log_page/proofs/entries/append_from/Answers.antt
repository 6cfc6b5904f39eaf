use Rattle.std.proofs.Common.{◌≡◌, ◌+◌, ◌-◌, ℕ, suc, length, Some, sym, ap, ◌∙◌, arith}
use Rattle.std.proofs.lemmas.List.{length-append}
use Rattle.log_page.specs.RecordPages.{entries_from}
use Rattle.log_page.proofs.Readings.{size_some, found_inside, one_more, one_more_fits, ends_foreign, ends_free}
use Rattle.log_page.proofs.entries.append_from.Goals as goal

pub returns-in-None : goal.returns-in-None
returns-in-None c =
    let n = length c.places.entries.items - length c.args.entries.now.items in
    let some : length c.args.page.now - n ≡ suc (4095 - n) = omega arith in
    let e = ends_foreign (length c.args.page.now - n) (4095 - n) c.args.page.now c.args.first c.places.at c.places.entries.items c.args.entries.now.items (entries_from (length c.args.page.now) c.args.page.now c.args.first c.args.from) some
    (sym c.goes_on.ensures.value ∙ c.places-test.true) (sym c.in-None.is ∙ c.in_ok-entry.ensures.value) c.places.invariant.read in
    record { value = (e.0 ∙ ap Some (sym c.lsn_of-lsn.ensures.value), e.1); fits = c.places.invariant.fits }

pub places-preserved : goal.places-preserved
places-preserved c =
    let n = length c.places.entries.items - length c.args.entries.now.items in
    let m = length c.keep.new.entries.items - length c.args.entries.now.items in
    let grown : length c.keep.new.entries.items ≡ length c.places.entries.items + 1 = ap length c.in_ok-keep-in-Some.ensures.ok ∙ length-append c.places.entries.items _ in
    let large = size_some c.in-Some.entry in
    let size = c.size-at.ensures in
    let inside = found_inside c.in_ok-entry.field-0 c.in-Some.entry c.places.at c.in-Some.is c.in_ok-entry.ensures.inside in
    let one : length c.args.page.now - n ≡ suc (length c.args.page.now - m) = omega arith in
    record {
      place = omega arith;
      near = omega arith;
      grown = omega arith;
      counted = omega arith;
      read = one_more (length c.args.page.now - n) (length c.args.page.now - m) c.args.page.now c.args.first c.places.at _ c.places.entries.items c.keep.new.entries.items c.in-Some.entry _ one
          (sym c.goes_on.ensures.value ∙ c.places-test.true) (sym c.in-Some.is ∙ c.in_ok-entry.ensures.value) (ap (λ (k : ℕ). c.places.at + k) size) c.in_ok-keep-in-Some.ensures.ok c.places.invariant.read;
      fits = λ all. one_more_fits c.in_ok-entry.field-0 c.in-Some.entry _ _ c.in-Some.is c.in_ok-entry.ensures.spelled c.in_ok-keep-in-Some.ensures.ok (c.places.invariant.fits all);
    }

pub returns : goal.returns
returns c =
    let n = length c.places.entries.items - length c.args.entries.now.items in
    record { value = ends_free (length c.args.page.now - n) c.args.page.now c.args.first c.places.at c.places.entries.items c.args.entries.now.items (entries_from (length c.args.page.now) c.args.page.now c.args.first c.args.from) (sym c.goes_on.ensures.value ∙ c.places-test.false) c.places.invariant.read; fits = c.places.invariant.fits }
