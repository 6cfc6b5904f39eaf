-- Which step comes next.
use Rattle.std.specs.Prelude.{◌*◌, ◌==◌, ◌&&◌, not, nat_le, Bool, if◌then◌else◌, Option, Some, None}
use Rattle.disk_model.specs.declared.block.Block.{Block}
use Rattle.flush_policy.specs.declared.facts.Facts.{Facts}
use Rattle.flush_policy.specs.declared.facts.StoreStep.{StoreStep}
use Rattle.flush_policy.specs.declared.facts.StoreStep.TheVariants.{SealPage, WritePage, SyncDevice, WriteOut, BeginCheckpoint, WriteRestart}

-- a page was used since the last checkpoint began, and that one has ended
abbrev pub may_begin : Facts → Bool
may_begin f = f.fresh && not f.begun

abbrev pub is_half_used : Facts → Bool
is_half_used f = nat_le f.pages (2 * f.pages_used)

-- The step where all that was written is durable and no block may be written out: the first that applies.
unfoldable pub step_of_ring : Facts → Option StoreStep
step_of_ring f =
    if f.begun && (f.noted_left == 0) then Some WriteRestart
    else (if may_begin f && is_half_used f then Some BeginCheckpoint
    else (if f.filling then Some SealPage
    else (if may_begin f then Some BeginCheckpoint
    else None)))

-- the step where each sealed page was written, and this block is ready
unfoldable pub step_of_blocks : Option Block → Facts → Option StoreStep
step_of_blocks (Some b) f = Some (WriteOut b)
step_of_blocks None f = if f.unsynced then Some SyncDevice else step_of_ring f

-- the step that comes next, if any
unfoldable pub next_step : Facts → Option StoreStep
next_step f = if f.sealed == 0 then step_of_blocks f.ready f else Some WritePage
