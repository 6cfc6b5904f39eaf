-- What the calls of a volume leave of the trees that a crash may bring back of it.
use Rattle.std.specs.Prelude.{◌≡◌, ◌⊎◌, ℕ, suc, ◌≤◌, max, List, [], ◌∷◌, Option, Some, Result, OnOk}
use Rattle.sector_device.specs.Moments.{Changes, MayLeaveNow, LeftSince}
use Rattle.file_tree.specs.declared.tree.Tree.{Tree}
use Rattle.volume_state.specs.Trees.{tree_of}
use Rattle.working_volume.specs.volume_mount.Mounts.{MountedVolume}
use Rattle.working_volume.specs.txn_laws.Windows.{lap_behind}
use Rattle.crash_trees.specs.txn_mount.Mountable.{IsFar}
use Rattle.txn_state.specs.States.{facts_of}
use Rattle.working_volume.specs.txn_core.Views.{present_on}
use Rattle.crash_trees.specs.txn_close.declared.fault.CloseFault.{CloseFault}
use Rattle.crash_trees.specs.txn_close.Ends.{Closes}
use Rattle.crash_trees.specs.Starts.{BeginsAsMounted}
use Rattle.crash_trees.specs.Mounting.{MountsAsOne}
use Rattle.crash_trees.specs.Closing.{LeavesNewest, LeftByClose}
use Rattle.volume_core.specs.Volumes.{SeenVolume, volume_tree}
use Rattle.volume_core.specs.Histories.{HasHistory, undurable}

-- Where the store began as one of a volume that was mounted from the first sectors, the one tree is that of what it reads.
abbrev pub StartsHistory : {D : Type 0} → (D → Option (List (List ℕ))) → (D → ℕ) → (D → Changes) → SeenVolume D → Type 0
StartsHistory gives count changes v = (first disk : List (List ℕ)) (mounted : MountedVolume) → gives v.store.device ≡ Some disk → BeginsAsMounted (count v.store.device) (changes v.store.device) v.store.state first mounted v.map v.table disk
    → HasHistory gives count changes v first (tree_of (present_on disk (facts_of v.store.state)) v.map.volume ∷ [])

-- its trees are those that it had
abbrev pub KeepsHistory : {D : Type 0} → (D → Option (List (List ℕ))) → (D → ℕ) → (D → Changes) → SeenVolume D → SeenVolume D → Type 0
KeepsHistory gives count changes old new = (first : List (List ℕ)) (trees : List Tree) → HasHistory gives count changes old first trees → HasHistory gives count changes new first trees

-- a tree is put in front, and is that of the present content
pub record AddsTree {D : Type 0} (gives : D → Option (List (List ℕ))) (count : D → ℕ) (changes : D → Changes) (v : SeenVolume D) (first : List (List ℕ)) (trees : List Tree) : Type 0 where
  pub tree : Tree
  pub present : volume_tree gives v ≡ Some tree
  pub has : HasHistory gives count changes v first (tree ∷ trees)

-- each image that counts as left since a moment counted so before
abbrev pub LeavesNoMore : ℕ → Changes → Changes → Type 0
LeavesNoMore count before now = (t : ℕ) (image : List (List ℕ)) → LeftSince count now t image → LeftSince count before t image

-- An operation: as many lists of changes were committed as before, the present tree stays, and the trees are those that were; or one more was, and there is one tree more, the present one. Inside the
-- call and behind it a crash leaves nothing that it could not have left before.
pub record GoesOn {D : Type 0} (gives : D → Option (List (List ℕ))) (count : D → ℕ) (changes : D → Changes) (old new : SeenVolume D) : Type 0 where
  pub commits : (new.store.state.commits ≡ old.store.state.commits) ⊎ (new.store.state.commits ≡ suc old.store.state.commits)
  pub same : new.store.state.commits ≡ old.store.state.commits → KeepsHistory gives count changes old new
  pub stays : new.store.state.commits ≡ old.store.state.commits → (first : List (List ℕ)) (trees : List Tree) → HasHistory gives count changes old first trees → volume_tree gives new ≡ volume_tree gives old
  pub more : new.store.state.commits ≡ suc old.store.state.commits → (first : List (List ℕ)) (trees : List Tree) → HasHistory gives count changes old first trees → AddsTree gives count changes new first trees
  pub left : LeavesNoMore (count old.store.device) (changes old.store.device) (changes new.store.device)

-- A look: trees and what a crash may leave stay.
pub record StaysPut {D : Type 0} (gives : D → Option (List (List ℕ))) (count : D → ℕ) (changes : D → Changes) (old new : SeenVolume D) : Type 0 where
  pub history : KeepsHistory gives count changes old new
  pub left : changes new.store.device ≡ changes old.store.device

-- A step of the store: the trees stay, whatever it answers; and each image that a crash inside it or behind it may leave could be left before, or mounts as one of the trees, of the operations
-- that weren't known durable before the step, or of the newest one that was. The laps of the log don't come near their end.
pub record TurnsTrees {D : Type 0} (gives : D → Option (List (List ℕ))) (count moment : D → ℕ) (changes : D → Changes) (old new : SeenVolume D) : Type 0 where
  pub history : KeepsHistory gives count changes old new
  pub left : (first : List (List ℕ)) (trees : List Tree) (t : ℕ) (image : List (List ℕ)) → HasHistory gives count changes old first trees
      → IsFar old.store.state.place (max (lap_behind (facts_of old.store.state)) (lap_behind (facts_of new.store.state))) → t ≤ moment old.store.device → LeftSince (count old.store.device) (changes new.store.device) t image
      → LeftSince (count old.store.device) (changes old.store.device) t image ⊎ MountsAsOne trees (undurable old) image

-- The store was closed, and the device given back. Where this went well, each image that a crash may leave of the device mounts as the newest of the trees, where the laps of the log don't come near
-- their end. Inside the close and behind it, whatever it answers, each that a crash may leave could be left before, or mounts as one of the trees, of the operations that weren't known durable before, or of
-- the newest one that was; and as the newest of all, where only the log couldn't be marked.
pub record ClosesTrees {D : Type 0} (gives : D → Option (List (List ℕ))) (count moment : D → ℕ) (changes : D → Changes) (v : SeenVolume D) (result : Result (Unit {0}) CloseFault) (device : D) : Type 0 where
  pub closes : Closes gives count moment changes v.store result device
  pub left : (first : List (List ℕ)) (trees : List Tree) → HasHistory gives count changes v first trees → IsFar v.store.state.place (lap_behind (facts_of closes.last.state))
      → OnOk result (LeavesNewest count changes trees device)
  pub inside : (first : List (List ℕ)) (trees : List Tree) → HasHistory gives count changes v first trees → IsFar v.store.state.place (lap_behind (facts_of closes.last.state))
      → LeftByClose count moment changes (facts_of v.store.state) v.store.device result device trees
