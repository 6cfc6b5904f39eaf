-- The recovery of a device by the entries of its log: what each of its writes leaves.
use Rattle.std.specs.Prelude.{◌≡◌, ◌⊎◌, ℕ, ◌*◌, ◌^◌, ◌<◌, ◌&&◌, not, Bool, true, false, List, length, All}
use Rattle.area_laws.specs.disk_model.declared.block.Block.{Block}
use Rattle.area_laws.specs.disk_model.declared.block.BlockKind.TheVariants.{Plain}
use Rattle.area_laws.specs.disk_model.Sectors.{sectors, same_block}
use Rattle.area_laws.specs.disk_model.Content.{Content, content_of}
use Rattle.area_laws.specs.fixup_record.Spellings.{has_spelling, spelled}
use Rattle.area_laws.specs.sector_device.Disks.{Disk, IsBetween, IsSettled, IsSized, put, seen, settled}
use Rattle.area_laws.specs.sector_device.Sectors.{sectors_of}
use Rattle.area_laws.specs.log_model.declared.entry.Entry.{Entry}
use Rattle.area_laws.specs.log_model.Logs.{IsLevel, is_shadowed, is_covered_whole, is_written_out, recovered}
use Rattle.area_laws.specs.log_page.declared.places.LogPlace.{LogPlace}
use Rattle.store_claims.specs.store_model.Logs.{has_update}
use Rattle.store_claims.specs.store_model.Geometry.{SectorBytes, Geometry, CanLeave}
use Rattle.store_claims.specs.store_model.Recovery.{Begins}
use Rattle.store_claims.specs.store_model.Volumes.{is_known, bytes_in, IsVolume, AreWhole, RecoversToContent}
use Rattle.store_claims.specs.Windows.{StoreWindow}
use Rattle.area_laws.specs.ring_laws.PageBytes.{raw_page, IsStill, AreAlike}
use Rattle.area_laws.specs.ring_laws.StoreDisks.{disk_without}
use Rattle.txn_model.specs.Values.{StoreFacts, is_own, own_of}
use Rattle.txn_laws.specs.Windows.{HasStart, HasWindow, ClaimsAll}
use Rattle.area_laws.specs.sector_device.Moments.{Changes}

-- these sectors have the block as it is in the content, torn at most where it is torn there
pub record StandsAt (content : Content) (at : SectorBytes) (b : Block) : Type 0 where
  pub bytes : (content_of at b).bytes ≡ (content b).bytes
  pub torn : (content_of at b).torn ≡ true → (content b).torn ≡ true

-- A recovery goes on: whatever a crash may leave of this disk recovers by the list to the content; and a read gives each known block that the list doesn't
-- shadow as it is there, but for those that are left to be written.
pub record IsMounting (own : ℕ → Bool) (list : List Entry) (content : Content) (left : Block → Bool) (disk : Disk) : Type 0 where
  pub geometry : Geometry
  pub volume : IsVolume own geometry
  pub level : All IsLevel list
  pub sized : (b : Block) → is_known own b ≡ true → length (content b).bytes ≡ 512 * sectors b.kind
  pub begins : Begins geometry list (disk_without own disk) (bytes_in content) (λ b. (content b).torn)
  pub stands : (b : Block) → is_known own b ≡ true → is_shadowed list b ≡ false → left b ≡ false → StandsAt content (seen disk) b

-- A block that is left may be written: it is known and has an update in the list, which doesn't shadow it; the list covers it whole, or it is a single
-- sector; and its bytes have a spelling.
pub record MayPutBack (own : ℕ → Bool) (list : List Entry) (content : Content) (left : Block → Bool) (b : Block) : Type 0 where
  pub waits : left b ≡ true
  pub known : is_known own b ≡ true
  pub updated : has_update list b ≡ true
  pub claimed : is_shadowed list b ≡ false
  pub covered : (is_covered_whole list b ≡ true) ⊎ (b.kind ≡ Plain)
  pub spelled : has_spelling b.kind (content b).bytes ≡ true

-- the disk after a write of the block as it is in the content, under this check word
abbrev pub put_back : Content → Block → ℕ → Disk → Disk
put_back content b check disk = put b.first (sectors_of (spelled b.kind check (content b).bytes)) disk

-- The store has a window with no transaction open and no commit that isn't durable, which claims each block, and whose present content is this one on the known
-- blocks that the list doesn't shadow, torn at most where that is.
pub record HasMounted (changes : Changes) (f : StoreFacts) (list : List Entry) (content : Content) : Type 0 where
  pub window : StoreWindow
  pub has : HasWindow changes f window
  pub closed : window.is_open ≡ false
  pub none : window.waiting ≡ 0
  pub claimed : ClaimsAll window.claimed
  pub present : (b : Block) → is_known (own_of f) b ≡ true → is_shadowed list b ≡ false → ((window.present b).bytes ≡ (content b).bytes) × ((window.present b).torn ≡ true → (content b).torn ≡ true)

-- Recovery of a device.
pub record MountsGoOn : Type 0 where
  -- it begins on a settled disk, and what recovery writes out is left
  pub start : (own : ℕ → Bool) (list : List Entry) (disk : Disk) → All IsLevel list → IsSettled disk → IsSized disk
      → IsMounting own list (recovered (content_of (seen disk)) list) (is_written_out (content_of (seen disk)) list) disk
  -- a write of a block that answered Ok, and one that failed
  pub written : (own : ℕ → Bool) (list : List Entry) (content : Content) (left : Block → Bool) (disk : Disk) (b : Block) (check : ℕ) → IsMounting own list content left disk → MayPutBack own list content left b → check < 2 ^ 16
      → IsSized (put_back content b check disk) → IsMounting own list content (λ c. left c && not (same_block c b)) (put_back content b check disk)
  pub failed : (own : ℕ → Bool) (list : List Entry) (content : Content) (left : Block → Bool) (disk now : Disk) (b : Block) (check : ℕ) → IsMounting own list content left disk → MayPutBack own list content left b → check < 2 ^ 16
      → IsBetween disk (put_back content b check disk) now → IsMounting own list content left now
  pub synced : (own : ℕ → Bool) (list : List Entry) (content : Content) (left : Block → Bool) (disk : Disk) → IsMounting own list content left disk → IsMounting own list content left (settled disk)
  -- at each moment, and so after recoveries that were stopped, whatever a crash leaves recovers by the list to the same content
  pub recovers : (own : ℕ → Bool) (list : List Entry) (content : Content) (left : Block → Bool) (disk : Disk) (at : SectorBytes) → IsMounting own list content left disk → CanLeave disk at → AreWhole at → RecoversToContent own list at content
  -- what is done with the log's own sectors
  pub elsewhere : (own : ℕ → Bool) (list : List Entry) (content : Content) (left : Block → Bool) (disk now : Disk) → IsMounting own list content left disk → disk_without own now ≡ disk_without own disk → IsMounting own list content left now
  -- once nothing is left and all is durable the content stands there, so that an empty list may be named; and it stands while that is written
  pub ended : (own : ℕ → Bool) (list : List Entry) (content : Content) (left : Block → Bool) (disk : Disk) (at : SectorBytes) → IsMounting own list content left disk → ((b : Block) → is_known own b ≡ true → left b ≡ false)
      → IsSettled (disk_without own disk) → CanLeave disk at → (b : Block) → is_known own b ≡ true → is_shadowed list b ≡ false → StandsAt content at b
  -- the log's pages stay: on the disk, by a write of a known block and by a sync, where nothing of them was unsynced at first; and in whatever a crash leaves
  pub log_stays : (place : LogPlace) (found : List Block) (b : Block) (new : List (List ℕ)) (disk now : Disk) → is_known (is_own place found) b ≡ true → length new ≡ sectors b.kind → IsBetween disk (put b.first new disk) now
      → AreAlike place 0 place.pages disk now
  pub log_synced : (place : LogPlace) (disk : Disk) → ((k : ℕ) → k < place.pages → IsStill place disk k) → AreAlike place 0 place.pages disk (settled disk)
  pub log_reads : (place : LogPlace) (disk : Disk) (at : SectorBytes) (k : ℕ) → IsStill place disk k → CanLeave disk at → raw_page place at k ≡ raw_page place (seen disk) k
  -- so a store that begins on the disk then shows the content that was recovered
  pub mounted : (changes : Changes) (f : StoreFacts) (list : List Entry) (content : Content) (left : Block → Bool) (disk : Disk) → HasStart changes f (content_of (seen disk)) → IsMounting (own_of f) list content left disk
      → ((b : Block) → is_known (own_of f) b ≡ true → left b ≡ false) → HasMounted changes f list content
