-- The steps that make the operations of a volume durable.
use Rattle.std.specs.Prelude.{◌≡◌, ℕ, ◌+◌, ◌-◌, ◌==◌, if◌then◌else◌, List, Option, Some, None}
use Rattle.disk_model.specs.declared.block.Block.{Block}
use Rattle.sector_device.specs.Moments.{Changes, MayLeaveNow}
use Rattle.file_tree.specs.declared.tree.Tree.{Tree}
use Rattle.log_area.specs.Areas.{is_filling}
use Rattle.flush_policy.specs.declared.facts.StoreStep.{StoreStep}
use Rattle.flush_policy.specs.declared.facts.StoreStep.TheVariants.{SealPage, WritePage, SyncDevice}
use Rattle.txn_model.specs.Values.{StoreFacts}
use Rattle.txn_state.specs.States.{facts_of}
use Rattle.txn_laws.specs.Windows.{lap_behind}
use Rattle.volume_core.specs.txn_mount.Mountable.{IsFar}
use Rattle.volume_core.specs.crash_trees.Mounting.{MountsAsOne}
use Rattle.volume_core.specs.Volumes.{SeenVolume}
use Rattle.volume_core.specs.Histories.{HasHistory}

-- The step of a sync that comes next: none where each list of changes is durable; else the page that is filled is sealed, each sealed page is written, and the device is synced.
abbrev pub sync_step : StoreFacts → Option StoreStep
sync_step f =
    if f.durable == f.commits then None
    else (if is_filling f.log then Some SealPage
    else (if (f.log.sealed - f.log.done) == 0 then Some SyncDevice
    else Some WritePage))

-- How many steps of a sync are to come, at most.
abbrev pub to_sync : StoreFacts → ℕ
to_sync f = (if is_filling f.log then 2 else 0) + (f.log.sealed - f.log.done) + (if f.durable == f.commits then 0 else 1)

-- the same blocks are dirty
abbrev pub KeepsDirty : StoreFacts → StoreFacts → Type 0
KeepsDirty f g = (b : Block) → (g.mark b).dirty ≡ (f.mark b).dirty

-- What a crash leaves of the volume now mounts as its newest tree. The laps of its log don't come near their end.
pub record LeavesNewest {D : Type 0} (gives : D → Option (List (List ℕ))) (count : D → ℕ) (changes : D → Changes) (v : SeenVolume D) : Type 0 where
  pub left : (first : List (List ℕ)) (trees : List Tree) (image : List (List ℕ)) → HasHistory gives count changes v first trees → IsFar v.store.state.place (lap_behind (facts_of v.store.state)) → MayLeaveNow (count v.store.device) (changes v.store.device) image → MountsAsOne trees 0 image
