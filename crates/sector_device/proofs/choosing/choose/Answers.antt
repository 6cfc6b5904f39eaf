use Rattle.std.proofs.Common.{sym, ◌∙◌, arith}
use Rattle.sector_device.specs.Sectors.{sectors_of}
use Rattle.sector_device.proofs.Leaving.{sync_ends, first_ends}
use Rattle.sector_device.proofs.choosing.choose.Goals as goal

pub returns-then-is_sync : goal.returns-then-is_sync
returns-then-is_sync c = λ disk fair.
    sync_ends disk (sectors_of c.loop-left.image) c.loop-left.decided c.loop-left.left c.args.done.now c.index-done-left.result (omega (arith, c.loop-left-test.true)) c.loop-left.invariant.short c.index-done-left.is (sym c.is_sync.ensures ∙ c.if-is_sync.true) (c.loop-left.invariant.fair disk fair)

pub returns : goal.returns
returns c = λ disk fair. first_ends disk (sectors_of c.loop-left.image) c.loop-left.decided c.loop-left.left c.args.done.now (omega (arith, c.loop-left-test.false)) (c.loop-left.invariant.fair disk fair)
