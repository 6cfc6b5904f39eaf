-- A run on a volume that it changes, and what a crash leaves of it.
use Rattle.std.specs.Prelude.{◌≡◌, ℕ, suc, ◌+◌, ◌*◌, ◌<◌, ◌≤◌, ⊤, List, [], ◌∷◌, length, take, slice_get, Option, Some, None, All}
use Rattle.sector_device.specs.Moments.{Changes}
use Rattle.file_tree.specs.declared.tree.Tree.{Tree}
use Rattle.run_model.specs.declared.turn.Turn.{Turn}
use Rattle.tree_model.specs.declared.script.Command.{Command}
use Rattle.run_model.specs.Runs.{RunStart, Segment, IsCounted, own, turn_commands, moment_of_last, last_faults, serial_of_last}
use Rattle.serial_run.specs.Runs.{run_start, IsSound}
use Rattle.run_model.specs.Leaving.{HoldsSynced, IsSyncedState, LeavesStates}
use Rattle.volume_replies.specs.log_area.Areas.{ring_size}
use Rattle.txn_state.specs.States.{facts_of}
use Rattle.volume_replies.specs.txn_model.Values.{StoreFacts}
use Rattle.volume_replies.specs.txn_model.Told.{pages_end}
use Rattle.volume_replies.specs.txn_laws.Windows.{lap_behind}
use Rattle.volume_replies.specs.volume_core.txn_mount.Mountable.{IsFar}
use Rattle.volume_replies.specs.volume_core.Volumes.{SeenVolume, volume_tree}
use Rattle.volume_replies.specs.volume_core.Histories.{HasHistory, undurable}
use Rattle.volume_replies.specs.volume_core.crash_trees.crash_mounts.Mounting.{MountsTree}
use Rattle.volume_replies.specs.Replies.{BeginsAtMost}
use Rattle.change_run.specs.Turns.{IsVolumeTurn, LeftOf}

-- The turns lead from the one tree to the other. The tree is known then where it was before.
abbrev pub RunsTree : RunStart → List Turn → (old new : Option Tree) → Type 0
RunsTree f turns (Some x) (Some y) = Segment (IsVolumeTurn f) [] turns x y
RunsTree f turns (Some x) None = ⊥
RunsTree f turns None (Some y) = ⊥
RunsTree f turns None None = ⊤

-- A volume was mounted from the first sectors, and each of its operations is durable; its tree is this one. So is that of each image that a crash could leave since this moment,
-- where the laps of the log don't come near their end.
pub record StartsAs {D : Type 0} (gives : D → Option (List (List ℕ))) (count : D → ℕ) (changes : D → Changes) (v : SeenVolume D) (since : ℕ) (first : List (List ℕ)) (tree : Tree) : Type 0 where
  pub older : List Tree
  pub has : HasHistory gives count changes v first (tree ∷ older)
  pub durable : undurable v ≡ 0
  pub present : volume_tree gives v ≡ Some tree
  pub left : IsFar v.store.state.place (lap_behind (facts_of v.store.state)) → (t : ℕ) (image : List (List ℕ)) → since ≤ t → LeftOf count changes v t image → MountsTree image tree

-- A volume that was mounted, and each of whose operations is durable, starts so at its present moment.
abbrev pub StartsNow : {D : Type 0} → (D → Option (List (List ℕ))) → (D → ℕ) → (D → Changes) → (D → ℕ) → SeenVolume D → Type 0
StartsNow gives count changes moment v =
    (first : List (List ℕ)) (tree : Tree) (older : List Tree) → HasHistory gives count changes v first (tree ∷ older) → undurable v ≡ 0 → volume_tree gives v ≡ Some tree → StartsAs gives count changes v (moment v.store.device) first tree

-- These turns led from the first tree to that of the volume. It has trees, the newest of which is its present one; each of those which aren't known durable, and the newest one that is, is that of a prefix of the
-- turns in which no sync that was answered is undone. And each image that a crash could leave since that moment mounts as the tree of such a prefix, where the laps of the log don't come near their end.
pub record CarriesOn {D : Type 0} (gives : D → Option (List (List ℕ))) (count : D → ℕ) (changes : D → Changes) (f : RunStart) (since : ℕ) (first : List (List ℕ)) (tree : Tree) (turns : List Turn) (v : SeenVolume D) : Type 0 where
  pub trees : List Tree
  pub has : HasHistory gives count changes v first trees
  pub now : Tree
  pub present : volume_tree gives v ≡ Some now
  pub newest : slice_get trees 0 ≡ Some now
  pub run : Segment (IsVolumeTurn f) [] turns tree now
  pub synced : All (λ (t : Turn). HoldsSynced (length turns) t.reply) turns
  pub each : (back : ℕ) (other : Tree) → back ≤ undurable v → slice_get trees back ≡ Some other → IsSyncedState (IsVolumeTurn f) turns tree now other
  pub leaves : IsFar v.store.state.place (lap_behind (facts_of v.store.state)) → LeavesStates (IsVolumeTurn f) MountsTree tree since (LeftOf count changes v) turns now

-- The run of the first commands of a script, from the one volume to the other: each begins no more pages of the log than its ring has. The run may be looked at as one that began at a moment before it, of which
-- this is known.
pub record RunsSoFar {D : Type 0} (gives : D → Option (List (List ℕ))) (count moment faults : D → ℕ) (changes : D → Changes) (script : List Command) (time i : ℕ) (turns : List Turn) (old new : SeenVolume D) : Type 0 where
  pub each : (client : ℕ) → length (own turns client) ≡ length (turn_commands (take i script) client)
  pub serials : (client : ℕ) → serial_of_last 0 (own turns client) ≤ length turns
  pub moments : moment_of_last 0 turns ≤ moment new.store.device
  pub onwards : moment old.store.device ≤ moment new.store.device
  pub after : All (λ (t : Turn). moment old.store.device ≤ t.moment) turns
  pub last : (client : ℕ) → last_faults (faults old.store.device) (own turns client) ≤ faults new.store.device
  pub later : faults old.store.device ≤ faults new.store.device
  pub counted : IsCounted (faults new.store.device) turns
  pub told : All IsSound turns → faults new.store.device ≡ faults old.store.device
  pub table : new.table ≡ old.table
  pub sectors : count new.store.device ≡ count old.store.device
  pub place : new.store.state.place ≡ old.store.state.place
  pub begins : BeginsAtMost (i * ring_size old.store.state.log) (facts_of old.store.state) (facts_of new.store.state)
  pub tree : RunsTree (run_start old.table script time (faults old.store.device) 0) turns (volume_tree gives old) (volume_tree gives new)
  pub carries : (since : ℕ) (first : List (List ℕ)) (tree : Tree) → StartsAs gives count changes old since first tree → CarriesOn gives count changes (run_start old.table script time (faults old.store.device) 0) since first tree turns new

-- Where a log in which no page was begun yet begins at most so many times the pages of its ring, it comes to no lap behind the one that is so many behind its first page's.
abbrev pub LapsBounded : Type 0
LapsBounded = (n : ℕ) (f g : StoreFacts) → 4 < f.log.pages → pages_end f ≡ 0 → BeginsAtMost (n * ring_size f.log) f g → lap_behind g ≤ suc (f.log.lap + n)
