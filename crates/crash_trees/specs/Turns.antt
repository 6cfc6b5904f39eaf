-- The trees that a crash may bring back of a volume, where its store takes a step.
use Rattle.std.specs.Prelude.{◌≡◌, ℕ, List, Option, Some, Result}
use Rattle.host_base.specs.declared.outside.Failed.{Failed}
use Rattle.disk_model.specs.Sectors.{sector_of}
use Rattle.sector_device.specs.Moments.{Changes}
use Rattle.file_tree.specs.declared.tree.Tree.{Tree}
use Rattle.crash_mounts.specs.map_change.Parts.{MapParts}
use Rattle.crash_mounts.specs.volume_mount.Mounts.{MountedVolume}
use Rattle.store_claims.specs.Windows.{StoreWindow}
use Rattle.flush_policy.specs.declared.facts.StoreStep.{StoreStep}
use Rattle.crash_mounts.specs.txn_state.States.{facts_of}
use Rattle.crash_mounts.specs.txn_core.Seen.{Seen}
use Rattle.crash_mounts.specs.txn_core.Steps.{AfterTurn}
use Rattle.resting_states.specs.found_stays.Found.{StaysOver}
use Rattle.resting_states.specs.Turns.{IsTurned}
use Rattle.crash_trees.specs.Trees.{HoldsTrees, HoldsTreesOn}

-- Behind a step, whatever it answers, the volume rests with the same map and the same trees, over the sectors that the device gives then, where the blocks by which its log is found stay.
abbrev pub TreesTurn : {D : Type 0} → (D → Option (List (List ℕ))) → (D → ℕ) → (D → ℕ) → (D → Changes) → Type 0
TreesTurn {D} gives count moment changes = (step : StoreStep) (result : Result (Unit {0}) Failed) (old new : Seen D) (first : List (List ℕ)) (mounted : MountedVolume) (m : MapParts) (table : List ℕ) (disk : List (List ℕ)) (trees : List Tree) (w : StoreWindow)
    → HoldsTrees (count old.device) (changes old.device) (facts_of old.state) first mounted m table disk trees w → gives old.device ≡ Some disk → IsTurned gives count moment changes step result old new
    → StaysOver (count old.device) (facts_of old.state).found (sector_of first) (changes old.device) (changes new.device) → HoldsTreesOn gives count changes new first mounted m table trees (AfterTurn step result (facts_of old.state) w)
