-- Which blocks are spared behind a list of changes.
use Rattle.std.specs.Prelude.{◌≡◌, ℕ, false, List, Some, Result}
use Rattle.std.specs.List.{AllByRecursion}
use Rattle.disk_model.specs.declared.block.Block.{Block}
use Rattle.disk_model.specs.declared.block.Change.{Change}
use Rattle.sector_device.specs.Moments.{Changes}
use Rattle.same_names.specs.map_change.Parts.{MapParts}
use Rattle.state_blocks.specs.Needing.{IsNeeded}
use Rattle.turn_laws.specs.store_claims.Windows.{StoreWindow}
use Rattle.turn_laws.specs.txn_state.States.{StateOf, facts_of}
use Rattle.turn_laws.specs.txn_laws.Windows.{HasWindow}
use Rattle.turn_laws.specs.txn_core.Views.{present_on}
use Rattle.turn_laws.specs.Sparing.{IsSpared}
use Rattle.state_store.specs.declared.fault.PutFault.{PutFault}
use Rattle.state_store.specs.Changes.{MayLog, AreApart, LeadsOn}
use Rattle.state_store.specs.Windows.{AfterPutting}
use Rattle.state_store.specs.Puts.{PutsOver}

-- Changes that lead on were put, or weren't. Where a window of the store spared each block from which the present content was read as a state, each window that follows it spares
-- each block from which the content behind them is read.
abbrev pub PutsSpare : Type 0
PutsSpare = (result : Result (Unit {0}) PutFault) (xs : List Change) (disk : List (List ℕ)) (old new : StateOf) (before now : Changes) (m next : MapParts) (table : List ℕ) (w u : StoreWindow) → HasWindow before (facts_of old) w → old.is_open ≡ false → AllByRecursion (MayLog (facts_of old)) xs
    → AreApart xs → LeadsOn m table xs (present_on disk (facts_of old)) → PutsOver result xs (Some disk) (Some disk) old new before now m next → AfterPutting result xs w u → ((b : Block) → IsNeeded (present_on disk (facts_of old)) m.volume b → IsSpared (facts_of old) w disk b)
    → (b : Block) → IsNeeded (present_on disk (facts_of new)) next.volume b → IsSpared (facts_of new) u disk b
