use Rattle.std.proofs.Common.{Option, ℕ, ap, ◌∙◌, arith}
use Rattle.volume_shadows.specs.Least.{lesser}
use Rattle.volume_shadows.specs.Tries.{least_tried}
use Rattle.volume_shadows.proofs.Leasts.{least_at, least_end}
use Rattle.volume_shadows.proofs.searching.least_in_runs.Goals as goal

pub loop-run-preserved : goal.loop-run-preserved
loop-run-preserved c =
    least_at (least_tried c.args.per c.args.kind c.args.count c.args.apart c.args.runs.now c.args.sorted.now) c.args.runs.now c.loop-run.run-index _ c.loop-run.least c.lesser-least.result _
    c.loop-run-test.true (c.lesser-least.ensures ∙ ap (λ (o : Option ℕ). lesser c.loop-run.least o) c.least_in_run-lsn.ensures) c.loop-run.invariant

pub returns : goal.returns
returns c =
    least_end (least_tried c.args.per c.args.kind c.args.count c.args.apart c.args.runs.now c.args.sorted.now) c.args.runs.now c.loop-run.run-index c.loop-run.least _
    (omega (arith, c.loop-run-test.false)) c.loop-run.invariant
