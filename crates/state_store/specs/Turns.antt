-- What a step of its store leaves of a volume.
use Rattle.std.specs.Prelude.{◌≡◌, ℕ, List, Option, Some, None, ⊤}
use Rattle.disk_model.specs.Content.{Content}
use Rattle.sector_device.specs.Moments.{Changes}
use Rattle.same_names.specs.volume_model.Volumes.{Volume}
use Rattle.same_names.specs.map_change.Parts.{MapParts}
use Rattle.state_blocks.specs.Needing.{AgreeOnNeeded}
use Rattle.turn_laws.specs.txn_state.States.{StateOf}
use Rattle.turn_laws.specs.txn_core.Views.{present_content}
use Rattle.state_store.specs.Volumes.{HoldsState}

-- the second content agrees with the first one on the blocks from which this is read as a state; and it is known where that is
abbrev pub AgreeWhereKnown : Volume → (old new : Option Content) → Type 0
AgreeWhereKnown v (Some c) (Some d) = AgreeOnNeeded c d v
AgreeWhereKnown v (Some c) None = ⊥
AgreeWhereKnown v None (Some d) = ⊥
AgreeWhereKnown v None None = ⊤

-- The store shows the same state, by the same map, after as many lists of changes.
pub record TurnsVolume (gives gave : Option (List (List ℕ))) (now : Changes) (old new : StateOf) (m : MapParts) (table : List ℕ) : Type 0 where
  pub holds : HoldsState gave now new m table
  pub content : AgreeWhereKnown m.volume (present_content gives old) (present_content gave new)
  pub commits : new.commits ≡ old.commits
