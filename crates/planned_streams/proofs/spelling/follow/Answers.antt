use Rattle.std.proofs.Common.{◌≡◌, true, false, None, refl, arith}
use Rattle.record_model.specs.declared.runs.Run.{Run}
use Rattle.planned_streams.proofs.Following.{next_there, next_back, end_follows}
use Rattle.planned_streams.proofs.spelling.follow.Goals as goal

abbrev none : Run
none = record { vcn = 0; lcn = None; len = 0 }

pub loop-run-preserved : goal.loop-run-preserved
loop-run-preserved c =
    let next = c.is_next.ensures.0 c.if-not-is_next.false in
    record {
      few = omega (arith, next.within);
      all = λ follow. c.loop-run.invariant.all (next_back c.args.runs.now c.loop-run.run-index c.loop-run.clusters none c.loop-run-test.true next follow);
      left = λ all. (next_there c.args.runs.now c.loop-run.run-index c.loop-run.clusters none c.loop-run-test.true (c.loop-run.invariant.left all)).1;
    }

pub returns : goal.returns
returns c = (λ _. c.loop-run.invariant.all (end_follows c.args.runs.now c.loop-run.run-index c.loop-run.clusters c.loop-run-test.false), λ _. refl)

pub returns-then-not-is_next : goal.returns-then-not-is_next
returns-then-not-is_next c = (
  λ e. absurd cc,
  λ all.
      let follow = next_there c.args.runs.now c.loop-run.run-index c.loop-run.clusters none c.loop-run-test.true (c.loop-run.invariant.left all) in
      let next : c.is_next.result ≡ true = c.is_next.ensures.1 follow.0 in
      let other : c.is_next.result ≡ false = c.if-not-is_next.true in
      absurd cc,
)
