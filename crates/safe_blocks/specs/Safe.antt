-- What a mounted volume gives to a store whose window is to hold states.
use Rattle.std.specs.Prelude.{◌≡◌, ◌⊎◌, ℕ, ◌^◌, ◌<◌, ◌≤◌, true, List, length, Ok}
use Rattle.std.specs.List.{list_any}
use Rattle.disk_model.specs.declared.block.Block.{Block}
use Rattle.disk_model.specs.Sectors.{sector_of, same_block}
use Rattle.disk_model.specs.Content.{Content, content_of}
use Rattle.sector_device.specs.Moments.{Changes}
use Rattle.log_page.specs.declared.places.LogPlace.{LogPlace}
use Rattle.log_reading.specs.Rings.{IsRingPlace}
use Rattle.state_model.specs.declared.geometry.Geometry.{Geometry}
use Rattle.volume_model.specs.Volumes.{Volume}
use Rattle.volume_model.specs.Indexes.{void_block}
use Rattle.spares_at_mount.specs.plan_owners.States.{Stands}
use Rattle.spares_at_mount.specs.plan_spares.Plans.{HasOwnLists}
use Rattle.spares_at_mount.specs.state_blocks.Needing.{IsNeeded}
use Rattle.spares_at_mount.specs.image_open.LogPlaces.{LieAlike}
use Rattle.spares_at_mount.specs.image_open.Writing.{found_by}
use Rattle.spares_at_mount.specs.volume_mount.Boot.{IsBootsAlone}
use Rattle.spares_at_mount.specs.volume_mount.Mounts.{has_single_lists, MountedVolume, mounted_in}
use Rattle.store_model.specs.Volumes.{is_known}
use Rattle.spares_at_mount.specs.txn_model.Values.{StoreFacts, is_own}
use Rattle.spares_at_mount.specs.txn_laws.Windows.{HasStart}
use Rattle.spares_at_mount.specs.map_change.Parts.{MapParts}
use Rattle.spares_at_mount.specs.state_store.Volumes.{geometry_of}
use Rattle.member_states.specs.Members.{base_of, is_found, IsSafe, void_body, MembersAre}
use Rattle.spares_at_mount.specs.Mounts.{LiesInLog}

-- ---- what a mount asks of a volume

-- Where no file has a second attribute list, none has a part of one in another record.
abbrev pub SingleListsAreOwn : Type 0
SingleListsAreOwn = (c : Content) (g : Geometry) (clusters : ℕ) (v : Volume) → Stands c g clusters v → has_single_lists v ≡ Ok tt → HasOwnLists c v

-- ---- safe blocks

-- The content is a state, in clusters of eight sectors, that suits a store whose log lies at this place: in the volume's log. No attribute list has a part in another record, and no stream
-- but $Boot's data has the first cluster, in which the boot sector lies.
pub record SuitsStore (c : Content) (g : Geometry) (clusters : ℕ) (place : LogPlace) (v : Volume) : Type 0 where
  pub eight : g.per_cluster ≡ 8
  pub stands : Stands c g clusters v
  pub lists : HasOwnLists c v
  pub boot : IsBootsAlone v
  pub ring : IsRingPlace place
  pub lies : LiesInLog place v

-- A block from which such a state is read is one that the store may change, or one by which the log is found: the boot sector, or record 2 of the file table. So it is safe, where what lies
-- in these two is as it always was.
pub record NeededAreSafe : Type 0 where
  pub known : (c : Content) (g : Geometry) (clusters : ℕ) (place : LogPlace) (v : Volume) (b : Block) → SuitsStore c g clusters place v → IsNeeded c v b → (is_known (is_own place (found_by g)) b ≡ true) ⊎ (list_any (same_block b) (found_by g) ≡ true)
  pub safe : (f : StoreFacts) (lies c : Content) (g : Geometry) (clusters : ℕ) (v : Volume) (b : Block) → SuitsStore c g clusters f.place v → f.found ≡ found_by g → ((x : Block) → is_found (base_of f lies g clusters) x ≡ true → c x ≡ lies x) → IsNeeded c v b
      → IsSafe (base_of f lies g clusters) c b

-- ---- mounted volumes

-- The store has its log where that of the mounted volume lies, in fewer than 2^52 pages, and keeps the blocks by which it is found.
pub record IsStoreOf (f : StoreFacts) (m : MountedVolume) : Type 0 where
  pub place : LieAlike f.place m.opened.place
  pub found : f.found ≡ found_by m.opened.geometry
  pub small : f.place.pages < 2 ^ 52

-- The mounted volume suits its store, and so does each other content that is a state of this volume. So the window that the store has at its start holds that state: over the content of the
-- mounted volume, over another one, and over that of these sectors; where what lies in the blocks by which the log is found is as it always was, and the block past the end of every disk is zeros.
pub record MountsHoldStates : Type 0 where
  pub suits : (c : Content) (sectors : ℕ) (m : MountedVolume) (f : StoreFacts) (d : Content) → mounted_in c sectors ≡ Ok m → IsStoreOf f m → Stands d m.opened.geometry m.opened.total m.volume → SuitsStore d m.opened.geometry m.opened.total f.place m.volume
  -- a map of this volume finds the file table where it was opened, and as many clusters
  pub geometry : (c : Content) (sectors : ℕ) (m : MountedVolume) (f : StoreFacts) (p : MapParts) → mounted_in c sectors ≡ Ok m → IsStoreOf f m → p.volume ≡ m.volume → (geometry_of p ≡ m.opened.geometry) × (p.volume.clusters ≡ m.opened.total)
  pub stands : (c : Content) (sectors : ℕ) (m : MountedVolume) (f : StoreFacts) → mounted_in c sectors ≡ Ok m → IsStoreOf f m → Stands m.content m.opened.geometry m.opened.total m.volume
  pub content : (c : Content) (sectors : ℕ) (m : MountedVolume) (changes : Changes) (f : StoreFacts) (d lies : Content) (start : HasStart changes f d) → mounted_in c sectors ≡ Ok m → IsStoreOf f m → Stands d m.opened.geometry m.opened.total m.volume
      → ((x : Block) → is_found (base_of f lies m.opened.geometry m.opened.total) x ≡ true → d x ≡ lies x) → d void_block ≡ void_body → MembersAre (base_of f lies m.opened.geometry m.opened.total) start.window
  pub mounted : (c : Content) (sectors : ℕ) (m : MountedVolume) (changes : Changes) (f : StoreFacts) (start : HasStart changes f m.content) → mounted_in c sectors ≡ Ok m → IsStoreOf f m → m.content void_block ≡ void_body
      → MembersAre (base_of f m.content m.opened.geometry m.opened.total) start.window
  pub sectors : (c : Content) (sectors : ℕ) (m : MountedVolume) (changes : Changes) (f : StoreFacts) (disk : List (List ℕ)) (start : HasStart changes f (content_of (sector_of disk))) → mounted_in c sectors ≡ Ok m → IsStoreOf f m
      → Stands (content_of (sector_of disk)) m.opened.geometry m.opened.total m.volume → length disk ≤ 2 ^ 62 → MembersAre (base_of f (content_of (sector_of disk)) m.opened.geometry m.opened.total) start.window
