-- The blocks of a state that a mount leaves to a store.
use Rattle.std.specs.Prelude.{◌≡◌, ℕ, ◌/◌, ◌<◌, true, false, List, Option, Some, IfSome}
use Rattle.std.specs.List.{AllByRecursion}
use Rattle.disk_model.specs.declared.block.Block.{Block}
use Rattle.disk_model.specs.Sectors.{sector_of, overlap}
use Rattle.disk_model.specs.Content.{Content, content_of}
use Rattle.sector_device.specs.Disks.{Disk, SeesDisk, seen}
use Rattle.sector_device.specs.Moments.{Changes}
use Rattle.log_model.specs.Logs.{is_in_grid}
use Rattle.mount_laws.specs.log_page.declared.places.LogPlace.{LogPlace}
use Rattle.mount_laws.specs.log_reading.Rings.{IsRingPlace}
use Rattle.state_store.specs.log_area.Areas.{LogAreaOf, page_first}
use Rattle.state_model.specs.declared.geometry.Geometry.{Geometry}
use Rattle.mount_laws.specs.volume_model.Volumes.{Volume}
use Rattle.mount_laws.specs.volume_model.Owners.{uses}
use Rattle.mount_laws.specs.stream_laws.Sharing.{stream_at, runs_in}
use Rattle.mount_laws.specs.plan_owners.States.{Stands}
use Rattle.mount_laws.specs.plan_owners.Kinds.{cluster_of}
use Rattle.mount_laws.specs.plan_owners.Agreeing.{IsJudged, log_key}
use Rattle.plan_spares.specs.Plans.{HasOwnLists}
use Rattle.store_model.specs.Volumes.{is_known}
use Rattle.state_store.specs.txn_model.Values.{is_own}
use Rattle.state_store.specs.txn_model.Calls.{first_facts}
use Rattle.state_store.specs.txn_laws.Windows.{HasStart}
use Rattle.mount_laws.specs.image_open.LogPlaces.{LieAlike}
use Rattle.mount_laws.specs.Laws.{LiesByRecord}
use Rattle.state_store.specs.map_change.Parts.{MapParts}
use Rattle.state_store.specs.txn_state.States.{StateOf, facts_of}
use Rattle.state_store.specs.txn_core.Views.{present_content}
use Rattle.state_store.specs.Volumes.{IsStateOf, SparesState}

-- each page of the log lies in a cluster that the volume's log has
abbrev pub LiesInLog : LogPlace → Volume → Type 0
LiesInLog place v = (k : ℕ) → k < place.pages → 0 < uses (runs_in (stream_at v log_key)) (page_first place k / 8)

-- the block lies in the grid, in a cluster that the volume's log hasn't
pub record IsApart (v : Volume) (b : Block) : Type 0 where
  pub grid : is_in_grid b ≡ true
  pub apart : uses (runs_in (stream_at v log_key)) (cluster_of b) ≡ 0

-- A block by which a state is judged lies so; and one that lies so, and shares no sector with a block by which the log is found, may be changed by a store whose log lies in the
-- clusters of the volume's log.
pub record BlocksOffLog : Type 0 where
  pub judged : (c : Content) (g : Geometry) (clusters : ℕ) (v : Volume) (b : Block) → g.per_cluster ≡ 8 → Stands c g clusters v → IsJudged v b → IsApart v b
  pub known : (place : LogPlace) (found : List Block) (v : Volume) (b : Block) → IsRingPlace place → LiesInLog place v → IsApart v b → AllByRecursion (λ x. overlap b x ≡ false) found → is_known (is_own place found) b ≡ true

-- A store at its start, on sectors that are a state whose log is the store's: it spares the state.
abbrev pub MountsSpare : Type 0
MountsSpare = (changes : Changes) (place : LogPlace) (log : LogAreaOf) (found : List Block) (g : Geometry) (clusters : ℕ) (v : Volume) (disk : List (List ℕ)) → HasStart changes (first_facts place log found) (content_of (sector_of disk)) → g.per_cluster ≡ 8
    → Stands (content_of (sector_of disk)) g clusters v → HasOwnLists (content_of (sector_of disk)) v → IsRingPlace place → LiesInLog place v → SparesState changes (first_facts place log found) v disk

-- So does a store over such a state in memory, on a device whose reads see its disk, as a volume over it asks.
abbrev pub StoresSpare : Type 0
StoresSpare = (gives : Option (List (List ℕ))) (changes : Changes) (state : StateOf) (m : MapParts) (table : List ℕ) → SeesDisk gives changes.disk → ((disk : Disk) → changes.disk ≡ Some disk → HasStart changes (facts_of state) (content_of (seen disk)))
    → facts_of state ≡ first_facts state.place state.log state.found → m.volume.per ≡ 8 → IsRingPlace state.place → LiesInLog state.place m.volume → IfSome (present_content gives state) (IsStateOf m table) → IfSome (present_content gives state) (λ c. HasOwnLists c m.volume)
    → IfSome gives (SparesState changes (facts_of state) m.volume)

-- The log of a mounted volume lies in the clusters of the volume's log; and so does one that lies alike.
pub record LogsLieInVolumes : Type 0 where
  pub lies : (sectors : ℕ) (c : Content) (g : Geometry) (total : ℕ) (place : LogPlace) (v : Volume) → LiesByRecord sectors c g total place v → LiesInLog place v
  pub alike : (p q : LogPlace) (v : Volume) → LieAlike p q → LiesInLog q v → LiesInLog p v
