use Rattle.std.proofs.Common.{◌≡◌, List, ◌++◌, ◌∷◌, [], None, drop, ◌+◌, ◌-◌, get_or, ap, ◌∙◌}
use Rattle.volume_model.specs.record_model.declared.runs.Run.{Run}
use Rattle.stream_runs.specs.Runs.{front}
use Rattle.stream_runs.proofs.Looping.{takes, cuts_some, cuts_none, all_taken}
use Rattle.stream_runs.proofs.sharing.front_of.Goals as goal
use Rattle.stream_runs.proofs.sharing.front_of.Goals.{then-left-gt0+in_ok-push, else-left-gt0}

abbrev none : Run
none = record { vcn = 0; lcn = None; len = 0 }

pub returns-then-run-left : goal.returns-then-run-left
returns-then-run-left c =
    let all = front c.args.clusters c.args.runs.now in
    elim c.if-left-gt0.branch [
      | then-left-gt0+in_ok-push w ↦
          w.new-is ∙ w.in_ok-push.ensures.pushed ∙ cuts_some all c.loop-run.new c.args.runs.now c.loop-run.run-index c.loop-run.left none c.loop-run-test.true c.if-run-left.true w.if-left-gt0.true c.loop-run.invariant
      | else-left-gt0 w ↦
          w.new-is ∙ cuts_none all c.loop-run.new c.args.runs.now c.loop-run.run-index c.loop-run.left none c.loop-run-test.true c.if-run-left.true w.if-left-gt0.false c.loop-run.invariant
    ]

pub loop-run-preserved : goal.loop-run-preserved
loop-run-preserved c =
    let next = get_or c.args.runs.now c.loop-run.run-index none in
    ap (λ (l : List Run). l ++ front (c.loop-run.left - next.len) (drop (c.loop-run.run-index + 1) c.args.runs.now)) c.in_ok-push-2.ensures.pushed
    ∙ takes (front c.args.clusters c.args.runs.now) c.loop-run.new c.args.runs.now c.loop-run.run-index c.loop-run.left none c.loop-run-test.true c.if-run-left.false c.loop-run.invariant

pub returns : goal.returns
returns c = all_taken (front c.args.clusters c.args.runs.now) c.loop-run.new c.args.runs.now c.loop-run.run-index c.loop-run.left c.loop-run-test.false c.loop-run.invariant
