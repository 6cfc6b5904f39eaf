use Rattle.std.proofs.Common.{Option, ℕ, ap, ◌∙◌, arith}
use Rattle.volume_shadows.specs.Least.{lesser}
use Rattle.volume_shadows.specs.Tries.{near_of, tried}
use Rattle.volume_shadows.proofs.Leasts.{least_at, least_end}
use Rattle.volume_shadows.proofs.searching.least_among.Goals as goal

pub loop-shadow-preserved : goal.loop-shadow-preserved
loop-shadow-preserved c =
    least_at (tried c.args.per c.args.kind c.args.count (near_of c.args.apart c.args.runs.now c.args.run.now) c.args.run.now) c.args.shadows.now c.loop-shadow.shadow-index _ c.loop-shadow.least c.lesser-least.result _
    c.loop-shadow-test.true (c.lesser-least.ensures ∙ ap (λ (o : Option ℕ). lesser c.loop-shadow.least o) c.tried-lsn.ensures) c.loop-shadow.invariant

pub returns : goal.returns
returns c =
    least_end (tried c.args.per c.args.kind c.args.count (near_of c.args.apart c.args.runs.now c.args.run.now) c.args.run.now) c.args.shadows.now c.loop-shadow.shadow-index c.loop-shadow.least _
    (omega (arith, c.loop-shadow-test.false)) c.loop-shadow.invariant
