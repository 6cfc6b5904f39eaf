-- What a crash leaves of a volume whose store is closed.
use Rattle.std.specs.Prelude.{◌≡◌, ◌⊎◌, ℕ, ◌-◌, ◌≤◌, List, OnOk, IfErr, Option, Result}
use Rattle.sector_device.specs.Moments.{Changes, MayLeaveNow, LeftSince}
use Rattle.file_tree.specs.declared.tree.Tree.{Tree}
use Rattle.crash_mounts.specs.map_change.Parts.{MapParts}
use Rattle.crash_mounts.specs.volume_mount.Mounts.{MountedVolume}
use Rattle.store_claims.specs.Windows.{StoreWindow}
use Rattle.crash_mounts.specs.txn_model.Values.{StoreFacts}
use Rattle.crash_mounts.specs.txn_laws.Windows.{lap_behind}
use Rattle.crash_mounts.specs.txn_mount.Mountable.{IsFar}
use Rattle.crash_mounts.specs.txn_state.States.{facts_of}
use Rattle.crash_mounts.specs.txn_core.Seen.{Seen}
use Rattle.txn_close.specs.declared.fault.CloseFault.{CloseFault}
use Rattle.txn_close.specs.declared.fault.CloseFault.TheVariants.{Unmarked}
use Rattle.txn_close.specs.Ends.{Closes}
use Rattle.crash_trees.specs.Trees.{HoldsTrees}
use Rattle.crash_trees.specs.Mounting.{MountsAsOne}

-- each image that a crash may leave of the device mounts as the newest of the trees
abbrev pub LeavesNewest : {D : Type 0} → (D → ℕ) → (D → Changes) → List Tree → D → Type 0
LeavesNewest count changes trees device = (image : List (List ℕ)) → MayLeaveNow (count device) (changes device) image → MountsAsOne trees 0 image

-- Once the store of a volume that holds trees was closed, each image that a crash may leave of its device mounts, as the newest of them, where the laps of its log don't come near their end.
abbrev pub TreesClose : {D : Type 0} → (D → Option (List (List ℕ))) → (D → ℕ) → (D → ℕ) → (D → Changes) → Type 0
TreesClose {D} gives count moment changes = (store : Seen D) (result : Result (Unit {0}) CloseFault) (device : D) (first : List (List ℕ)) (mounted : MountedVolume) (m : MapParts) (table : List ℕ) (disk : List (List ℕ)) (trees : List Tree) (w : StoreWindow)
    → HoldsTrees (count store.device) (changes store.device) (facts_of store.state) first mounted m table disk trees w → (closes : Closes gives count moment changes store result device) → IsFar (facts_of store.state).place (lap_behind (facts_of closes.last.state))
    → OnOk result (LeavesNewest count changes trees device)

-- Whatever a crash leaves of a volume that holds trees inside the close of its store, which may fail, and behind it, mounts as one of those which were not known durable before, or as the newest one that was.
pub record LeftByClose {D : Type 0} (count moment : D → ℕ) (changes : D → Changes) (f : StoreFacts) (old : D) (result : Result (Unit {0}) CloseFault) (device : D) (trees : List Tree) : Type 0 where
  -- inside it and behind it: so does each image that counts as left since t, unless it counted so before
  pub inside : (t : ℕ) (image : List (List ℕ)) → t ≤ moment old → LeftSince (count old) (changes device) t image → LeftSince (count old) (changes old) t image ⊎ MountsAsOne trees (f.commits - f.durable) image
  -- behind it: so does each image that a crash may leave then
  pub behind : (image : List (List ℕ)) → MayLeaveNow (count device) (changes device) image → MountsAsOne trees (f.commits - f.durable) image
  -- and as the newest of all, where only the log couldn't be marked
  pub unmarked : IfErr result (λ fault. fault ≡ Unmarked → LeavesNewest count changes trees device)

-- So it is of each close of its store, whatever it answers, where the laps of its log don't come near their end.
abbrev pub CloseLeaves : {D : Type 0} → (D → Option (List (List ℕ))) → (D → ℕ) → (D → ℕ) → (D → Changes) → Type 0
CloseLeaves {D} gives count moment changes = (store : Seen D) (result : Result (Unit {0}) CloseFault) (device : D) (first : List (List ℕ)) (mounted : MountedVolume) (m : MapParts) (table : List ℕ) (disk : List (List ℕ)) (trees : List Tree) (w : StoreWindow)
    → HoldsTrees (count store.device) (changes store.device) (facts_of store.state) first mounted m table disk trees w → (closes : Closes gives count moment changes store result device) → IsFar (facts_of store.state).place (lap_behind (facts_of closes.last.state))
    → LeftByClose count moment changes (facts_of store.state) store.device result device trees
