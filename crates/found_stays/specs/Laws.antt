-- The laws of the blocks by which a log is found.
use Rattle.std.specs.Prelude.{◌≡◌, ◌≢◌, ℕ, ◌/◌, ◌<◌, Bool, true, List, Option, Some, None, IfSome, Result}
use Rattle.std.specs.List.{AllByRecursion, list_any}
use Rattle.host_base.specs.declared.outside.Failed.{Failed}
use Rattle.disk_model.specs.declared.block.Block.{Block}
use Rattle.disk_model.specs.Content.{content_of}
use Rattle.disk_model.specs.Sectors.{sector_of, same_block}
use Rattle.sector_device.specs.Disks.{Disk, MayLeave, AreOver, IsSettled, SeesDisk, seen}
use Rattle.sector_device.specs.Moments.{Changes, Syncs, LeftSince}
use Rattle.log_model.specs.Logs.{is_in_grid}
use Rattle.txn_core.specs.log_page.declared.places.LogPlace.{LogPlace}
use Rattle.txn_core.specs.log_reading.Rings.{IsRingPlace}
use Rattle.txn_core.specs.log_area.Areas.{page_first}
use Rattle.txn_core.specs.store_model.Geometry.{SectorBytes}
use Rattle.txn_core.specs.store_model.Stores.{Store}
use Rattle.txn_core.specs.store_claims.Windows.{StoreWindow}
use Rattle.flush_policy.specs.declared.facts.StoreStep.{StoreStep}
use Rattle.txn_core.specs.txn_model.Values.{StoreFacts}
use Rattle.txn_core.specs.txn_laws.Standing.{StandsBehind}
use Rattle.txn_core.specs.txn_laws.Windows.{HasMachineAs, HasMachine, HasWindow}
use Rattle.txn_core.specs.txn_state.States.{facts_of, IsStore}
use Rattle.txn_core.specs.Seen.{Seen}
use Rattle.txn_core.specs.Steps.{MayTurn, TurnsDevice}
use Rattle.txn_core.specs.Turns.{SendsRestartPage}
use Rattle.txn_core.specs.Views.{present_on}
use Rattle.found_stays.specs.Found.{HasFirst, StaysFirst, AreOffLog, BearsFirst, StaysOver}

-- Where the sectors of these blocks are durable as they were at first, and none was written since, whatever a crash leaves bears what was there, and so does what is seen of the disk.
pub record ImagesBear : Type 0 where
  pub left : (count : ℕ) (found : List Block) (first : SectorBytes) (disk : Disk) (image : List (List ℕ)) → HasFirst found first disk → MayLeave count disk image → BearsFirst found first (sector_of image)
  pub reads : (found : List Block) (first : SectorBytes) (disk : Disk) → HasFirst found first disk → BearsFirst found first (seen disk)
  pub given : (found : List Block) (first : SectorBytes) (gives : Option (List (List ℕ))) (changes : Changes) → SeesDisk gives changes.disk → StaysFirst found first changes → IfSome gives (λ disk. BearsFirst found first (sector_of disk))

-- A call that changes nothing on the device leaves these sectors, and so does one on a disk that is known neither before it nor behind it; and so do calls one behind the other, where each does. Whatever is left then, since a moment at which each disk of before was over, bears what was there at first.
pub record CallsJoin : Type 0 where
  pub none : (count : ℕ) (found : List Block) (first : SectorBytes) (old now : Changes) → now ≡ old → StaysOver count found first old now
  pub unknown : (count : ℕ) (found : List Block) (first : SectorBytes) (old now : Changes) → old.disk ≡ None → now.disk ≡ None → StaysOver count found first old now
  pub both : (count : ℕ) (found : List Block) (first : SectorBytes) (old mid now : Changes) → StaysOver count found first old mid → StaysOver count found first mid now → StaysOver count found first old now
  pub since : (count t : ℕ) (found : List Block) (first : SectorBytes) (old now : Changes) (disk : Disk) (image : List (List ℕ)) → old.disk ≡ Some disk → AreOver t old.past → HasFirst found first disk → StaysOver count found first old now → LeftSince count now t image → BearsFirst found first (sector_of image)

-- Each step that a store may take leaves them, whether it answers `Ok` or fails; and so do a restart page, also one that says that the log is closed, of a store that ends, and a sync.
pub record StepsStay {D : Type 0} (gives : D → Option (List (List ℕ))) (moment : D → ℕ) (changes : D → Changes) : Type 0 where
  pub turn : (count : ℕ) (first : SectorBytes) (step : StoreStep) (result : Result (Unit {0}) Failed) (old new : Seen D) → IsStore (facts_of old.state) → HasMachine (changes old.device) (facts_of old.state) → AreOffLog (facts_of old.state).place (facts_of old.state).found
      → MayTurn (facts_of old.state) step → TurnsDevice gives changes moment step result (facts_of old.state) (facts_of new.state) old.words new.words old.device new.device → StaysOver count (facts_of old.state).found first (changes old.device) (changes new.device)
  -- the same where the disk is known
  pub windowed : (count : ℕ) (first : SectorBytes) (step : StoreStep) (result : Result (Unit {0}) Failed) (old new : Seen D) (w : StoreWindow) → HasWindow (changes old.device) (facts_of old.state) w → AreOffLog (facts_of old.state).place (facts_of old.state).found
      → MayTurn (facts_of old.state) step → TurnsDevice gives changes moment step result (facts_of old.state) (facts_of new.state) old.words new.words old.device new.device → StaysOver count (facts_of old.state).found first (changes old.device) (changes new.device)
  pub restart : (ends : Bool) (count : ℕ) (first : SectorBytes) (clean : Bool) (result : Result (Unit {0}) Failed) (f g : StoreFacts) (old new : D) → HasMachineAs ends (changes old) f → AreOffLog f.place f.found → SendsRestartPage gives changes moment clean f g result old new → StaysOver count f.found first (changes old) (changes new)
  pub sync : (count : ℕ) (found : List Block) (first : SectorBytes) (result : Result (Unit {0}) Failed) (old new : D) → Syncs (moment old) result (changes old) (changes new) → StaysOver count found first (changes old) (changes new)

-- A store keeps no body of such a block; so in its present content the block is as the sectors have it, and where these are known, as it was at first.
pub record BodiesStay : Type 0 where
  pub none : (f : StoreFacts) (raw : Disk) (m : Store) (b : Block) → StandsBehind f raw m → list_any (same_block b) f.found ≡ true → f.body b ≡ None
  pub present : (f : StoreFacts) (raw : Disk) (m : Store) (first : SectorBytes) (disk : List (List ℕ)) (b : Block) → StandsBehind f raw m → BearsFirst f.found first (sector_of disk) → list_any (same_block b) f.found ≡ true → present_on disk f b ≡ content_of first b
  pub given : (f : StoreFacts) (first : SectorBytes) (gives : Option (List (List ℕ))) (changes : Changes) → HasMachine changes f → SeesDisk gives changes.disk → StaysFirst f.found first changes
      → IfSome gives (λ disk. (b : Block) → list_any (same_block b) f.found ≡ true → present_on disk f b ≡ content_of first b)

-- the block lies in the grid, in a cluster in which no page of the log lies
pub record LiesBeside (place : LogPlace) (b : Block) : Type 0 where
  pub grid : is_in_grid b ≡ true
  pub apart : (k : ℕ) → k < place.pages → page_first place k / 8 ≢ b.first / 8

-- A disk of which nothing is unsynced has what is seen of it. Blocks that lie beside the log have no sector of its pages.
pub record StartsStay : Type 0 where
  pub settled : (found : List Block) (disk : Disk) → IsSettled disk → HasFirst found (seen disk) disk
  pub apart : (place : LogPlace) (found : List Block) → IsRingPlace place → AllByRecursion (LiesBeside place) found → AreOffLog place found
