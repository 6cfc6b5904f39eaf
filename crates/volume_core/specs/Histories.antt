-- The trees that a crash may bring back of a volume.
use Rattle.std.specs.Prelude.{◌≡◌, ℕ, ◌-◌, List, Option, Some}
use Rattle.sector_device.specs.Moments.{Changes, MayLeaveNow}
use Rattle.file_tree.specs.declared.tree.Tree.{Tree}
use Rattle.working_volume.specs.volume_mount.Mounts.{MountedVolume}
use Rattle.store_claims.specs.Windows.{StoreWindow}
use Rattle.working_volume.specs.txn_laws.Windows.{lap_behind}
use Rattle.crash_trees.specs.txn_mount.Mountable.{IsFar}
use Rattle.txn_state.specs.States.{facts_of}
use Rattle.crash_trees.specs.Trees.{HoldsTrees}
use Rattle.crash_trees.specs.Mounting.{MountsAsOne}
use Rattle.volume_core.specs.Volumes.{SeenVolume}

-- The volume was mounted from the first sectors, and since then it had these trees, the newest first: its store has a window, whose contents are states with these trees, in their order.
pub record HasHistory {D : Type 0} (gives : D → Option (List (List ℕ))) (count : D → ℕ) (changes : D → Changes) (v : SeenVolume D) (first : List (List ℕ)) (trees : List Tree) : Type 0 where
  pub disk : List (List ℕ)
  pub given : gives v.store.device ≡ Some disk
  pub mounted : MountedVolume
  pub window : StoreWindow
  pub holds : HoldsTrees (count v.store.device) (changes v.store.device) (facts_of v.store.state) first mounted v.map v.table disk trees window

-- so many operations of a volume aren't known durable
abbrev pub undurable : {D : Type 0} → SeenVolume D → ℕ
undurable v = v.store.state.commits - v.store.state.durable

-- What a crash leaves of the volume now mounts as one of its trees: of one of the operations that aren't known durable, or of the newest one that is. The laps of its log don't come near their end.
pub record LeavesTrees {D : Type 0} (gives : D → Option (List (List ℕ))) (count : D → ℕ) (changes : D → Changes) (v : SeenVolume D) : Type 0 where
  pub left : (first : List (List ℕ)) (trees : List Tree) (image : List (List ℕ)) → HasHistory gives count changes v first trees → IsFar v.store.state.place (lap_behind (facts_of v.store.state))
      → MayLeaveNow (count v.store.device) (changes v.store.device) image → MountsAsOne trees (undurable v) image
