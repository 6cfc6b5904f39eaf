use Rattle.std.proofs.Common.{◌+◌, ◌-◌, ◌≤◌, drop, get_or, arith}
use Rattle.image_read.specs.log_page.declared.places.Extent.{Extent}
use Rattle.volume_mount.proofs.Fronting.{taken_run, with_run, ends_here, ends_behind, all_run}
use Rattle.volume_mount.proofs.pages.lying_in_front.Goals as goal

abbrev no_run : Extent
no_run = record { first = 0; sectors = 0 }

pub returns-then-all-count : goal.returns-then-all-count
returns-then-all-count c =
    let runs = c.args.runs.now in let index = c.loop-run.run-index in
    let is = taken_run runs index no_run c.loop-run.count c.loop-run-test.true c.loop-run.invariant.rest in
    let most : c.args.all - c.loop-run.count ≤ c.on_device-more.result = c.if-all-count.true in
    record {
      few = omega arith;
      there = λ n lt. with_run c.args.device c.loop-run.count (c.args.all - c.loop-run.count) runs (get_or runs index no_run) (drop (index + 1) runs) is c.loop-run.invariant.before (omega (arith, most, c.on_device-more.ensures)) n
          (omega (arith, lt, c.loop-run.invariant.few));
      ends = λ lt. absurd (omega (arith, lt));
    }

pub returns-then-more-run : goal.returns-then-more-run
returns-then-more-run c =
    let runs = c.args.runs.now in let index = c.loop-run.run-index in
    let is = taken_run runs index no_run c.loop-run.count c.loop-run-test.true c.loop-run.invariant.rest in
    record {
      few = omega (arith, c.if-all-count.false, c.loop-run.invariant.few);
      there = with_run c.args.device c.loop-run.count c.on_device-more.result runs (get_or runs index no_run) (drop (index + 1) runs) is c.loop-run.invariant.before (omega (arith, c.on_device-more.ensures));
      ends = λ lt. ends_here c.args.device c.loop-run.count c.on_device-more.result runs (get_or runs index no_run) (drop (index + 1) runs) is c.on_device-more.ensures c.if-more-run.true;
    }

pub loop-run-preserved : goal.loop-run-preserved
loop-run-preserved c =
    let runs = c.args.runs.now in let index = c.loop-run.run-index in
    let is = taken_run runs index no_run c.loop-run.count c.loop-run-test.true c.loop-run.invariant.rest in
    record {
      few = omega (arith, c.if-all-count.false, c.loop-run.invariant.few);
      before = with_run c.args.device c.loop-run.count c.on_device-more.result runs (get_or runs index no_run) (drop (index + 1) runs) is c.loop-run.invariant.before (omega (arith, c.on_device-more.ensures));
      rest = all_run runs (get_or runs index no_run) (drop (index + 1) runs) c.loop-run.count c.on_device-more.result c.args.device is c.on_device-more.ensures c.if-more-run.false;
    }

pub returns : goal.returns
returns c = record {
  few = c.loop-run.invariant.few;
  there = c.loop-run.invariant.before;
  ends = λ lt. ends_behind c.args.device c.loop-run.count c.args.runs.now c.loop-run.run-index (omega (arith, c.loop-run-test.false)) c.loop-run.invariant.rest;
}
