-- What steps of a volume's store leave of the volume, one behind the other.
use Rattle.std.specs.Prelude.{◌≡◌, ◌⊎◌, ℕ, ◌≤◌, List, Option, Result}
use Rattle.host_base.specs.declared.outside.Failed.{Failed}
use Rattle.sector_device.specs.Moments.{Changes, LeftSince}
use Rattle.file_tree.specs.declared.tree.Tree.{Tree}
use Rattle.flush_policy.specs.declared.facts.StoreStep.{StoreStep}
use Rattle.txn_model.specs.Told.{KeepsSteps}
use Rattle.txn_state.specs.States.{facts_of}
use Rattle.txn_laws.specs.Windows.{lap_behind}
use Rattle.volume_core.specs.txn_mount.Mountable.{IsFar}
use Rattle.volume_core.specs.txn_core.Kept.{IsKept}
use Rattle.volume_core.specs.resting_states.Turns.{IsTurned}
use Rattle.volume_core.specs.crash_trees.txn_close.Passing.{BeginsNoPage}
use Rattle.volume_core.specs.crash_trees.Mounting.{MountsAsOne}
use Rattle.volume_core.specs.Volumes.{SeenVolume, volume_tree}
use Rattle.volume_core.specs.Histories.{HasHistory, undurable}
use Rattle.volume_core.specs.Calls.{KeepsHistory, TurnsTrees}

-- whatever history a volume had, no more of its operations aren't known durable than were
abbrev pub KeepsDurable : {D : Type 0} → (D → Option (List (List ℕ))) → (D → ℕ) → (D → Changes) → SeenVolume D → SeenVolume D → Type 0
KeepsDurable gives count changes old new = (first : List (List ℕ)) (trees : List Tree) → HasHistory gives count changes old first trees → undurable new ≤ undurable old

-- Each image that a crash inside the steps or behind them may leave could be left before the first of them, or mounts as one of the trees, of the operations that weren't known durable before the
-- first step, or of the newest one that was. The laps of the log don't come near their end by the last step.
abbrev pub LeavesOneOf : {D : Type 0} → (D → Option (List (List ℕ))) → (count moment : D → ℕ) → (D → Changes) → SeenVolume D → SeenVolume D → Type 0
LeavesOneOf gives count moment changes old new =
    (first : List (List ℕ)) (trees : List Tree) (t : ℕ) (image : List (List ℕ)) → HasHistory gives count changes old first trees → IsFar old.store.state.place (lap_behind (facts_of new.store.state)) → t ≤ moment old.store.device → LeftSince (count old.store.device) (changes new.store.device) t image
    → LeftSince (count old.store.device) (changes old.store.device) t image ⊎ MountsAsOne trees (undurable old) image

-- Steps of a volume's store lead from this volume to that one: it has the same tree, map, table of upper-case units and streams, behind as many operations; its log lies where it did, of which no
-- page is begun, and whose laps don't fall; and it has the same trees that a crash may bring back.
pub record RunsOn {D : Type 0} (gives : D → Option (List (List ℕ))) (count moment : D → ℕ) (changes : D → Changes) (old new : SeenVolume D) : Type 0 where
  pub tree : volume_tree gives new ≡ volume_tree gives old
  pub map : new.map ≡ old.map
  pub table : new.table ≡ old.table
  pub streams : new.streams ≡ old.streams
  pub commits : new.store.state.commits ≡ old.store.state.commits
  pub place : new.store.state.place ≡ old.store.state.place
  pub sectors : count new.store.device ≡ count old.store.device
  pub later : moment old.store.device ≤ moment new.store.device
  pub laps : lap_behind (facts_of old.store.state) ≤ lap_behind (facts_of new.store.state)
  pub begins_none : BeginsNoPage (facts_of old.store.state) (facts_of new.store.state)
  pub history : KeepsHistory gives count changes old new
  pub fewer : KeepsDurable gives count changes old new
  pub left : LeavesOneOf gives count moment changes old new

-- a step that was taken, or failed, as its call says it, leads from this volume to that one
abbrev pub TurnsRun : {D : Type 0} → (D → Option (List (List ℕ))) → (count moment : D → ℕ) → (D → Changes) → Type 0
TurnsRun {D} gives count moment changes = (step : StoreStep) (result : Result (Unit {0}) Failed) (old new : SeenVolume D) → IsKept (facts_of old.store.state) → KeepsSteps (facts_of old.store.state) → IsTurned gives count moment changes step result old.store new.store
    → TurnsTrees gives count moment changes old new → volume_tree gives new ≡ volume_tree gives old → new.map ≡ old.map → new.table ≡ old.table → new.streams ≡ old.streams → new.store.state.commits ≡ old.store.state.commits → RunsOn gives count moment changes old new

-- steps behind steps are steps
abbrev pub RunsJoin : {D : Type 0} → (D → Option (List (List ℕ))) → (count moment : D → ℕ) → (D → Changes) → Type 0
RunsJoin {D} gives count moment changes = (old mid new : SeenVolume D) → RunsOn gives count moment changes old mid → RunsOn gives count moment changes mid new → RunsOn gives count moment changes old new
