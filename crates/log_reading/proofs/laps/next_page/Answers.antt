use Rattle.std.proofs.Common.{◌<◌, List, length, get_or, sym, ap, ◌∙◌, arith}
use Rattle.log_page.specs.declared.places.Extent.{Extent}
use Rattle.log_reading.proofs.Ahead.{page_found, run_passed, none_left}
use Rattle.log_reading.proofs.laps.next_page.Goals as goal

abbrev none : Extent
none = record { first = 0; sectors = 0 }

pub returns-in-Some : goal.returns-in-Some
returns-in-Some c =
    let runs = c.args.place.now.runs in
    let run = get_or c.as_slice-run-items.result.now c.loop-run.run-index none in
    let size = ap length c.as_slice-run-items.ensures in
    let lt : c.loop-run.run-index < length runs = omega (arith, size, c.loop-run-test.true) in
    record {
      next = page_found c.args.place.now c.args.page c.loop-run.run-index none run c.loop-run.sought c.in-Some.sector lt (ap (λ (rs : List Extent). get_or rs c.loop-run.run-index none) c.as_slice-run-items.ensures)
          (sym c.is_read.ensures.value ∙ c.if-not-is_read.false) (sym c.sector_on.ensures.value ∙ c.in-Some.is) c.loop-run.invariant;
    }

pub loop-run-preserved : goal.loop-run-preserved
loop-run-preserved c =
    let runs = c.args.place.now.runs in
    let run = get_or c.as_slice-run-items.result.now c.loop-run.run-index none in
    let size = ap length c.as_slice-run-items.ensures in
    let lt : c.loop-run.run-index < length runs = omega (arith, size, c.loop-run-test.true) in
    run_passed c.args.place.now c.args.page c.loop-run.run-index none run c.loop-run.sought c.after-sought.result lt (ap (λ (rs : List Extent). get_or rs c.loop-run.run-index none) c.as_slice-run-items.ensures)
    (sym c.sector_on.ensures.value ∙ c.in_default.is) c.after-sought.ensures c.loop-run.invariant

pub returns : goal.returns
returns c =
    let size = ap length c.as_slice-run-items.ensures in
    record { next = none_left c.args.place.now c.args.page c.loop-run.run-index c.loop-run.sought (omega (arith, size, c.loop-run-test.false)) c.loop-run.invariant }
