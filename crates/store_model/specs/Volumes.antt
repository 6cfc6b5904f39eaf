-- A store on the disk of a volume: which blocks it knows, and its window and its recovery in the words of blocks and contents.
use Rattle.std.specs.Prelude.{◌≡◌, ℕ, ◌-◌, ◌*◌, ◌&&◌, not, Bool, true, false, if◌then◌else◌, List, length, map, slice_index}
use Rattle.std.specs.List.{list_all, range_with_len}
use Rattle.log_model.specs.disk_model.declared.block.Block.{Block}
use Rattle.log_model.specs.disk_model.declared.block.BlockKind.{BlockKind}
use Rattle.log_model.specs.disk_model.Sectors.{sectors, sector_of}
use Rattle.log_model.specs.disk_model.Content.{Content, content_of}
use Rattle.fixup_record.specs.Spellings.{has_spelling, spelled}
use Rattle.sector_device.specs.Sectors.{sectors_of}
use Rattle.sector_device.specs.Disks.{Disk, is_within}
use Rattle.log_model.specs.declared.entry.Entry.{Entry}
use Rattle.log_model.specs.Logs.{is_in_grid, is_shadowed, recovered}
use Rattle.store_model.specs.Logs.{BodyBytes, AllBytes}
use Rattle.store_model.specs.Geometry.{SectorBytes, Geometry, CanLeave}
use Rattle.store_model.specs.Stores.{Store, Window, member}
use Rattle.store_model.specs.Runs.{mounted}

-- the block has none of the sectors that the log keeps for itself
abbrev pub is_free : (ℕ → Bool) → Block → Bool
is_free own b = list_all (λ s. not (own s)) (range_with_len b.first (sectors b.kind))

-- a block that a store may change: it is in the grid, and on none of the log's own sectors
abbrev pub is_known : (ℕ → Bool) → Block → Bool
is_known own b = is_in_grid b && is_free own b

-- the bytes of the body of a known block, and 0 of another
abbrev pub known_size : (ℕ → Bool) → Block → ℕ
known_size own b = if is_known own b then 512 * sectors b.kind else 0

-- the first n of these bytes
unfoldable pub first_bytes : ℕ → BodyBytes → List ℕ
first_bytes n bytes = map bytes (range_with_len 0 n)

-- the geometry of a volume whose log keeps these sectors for itself
pub record IsVolume (own : ℕ → Bool) (geometry : Geometry) : Type 0 where
  pub has : (b : Block) (s : ℕ) → geometry.has b s ≡ is_within b.first (sectors b.kind) s
  pub size : (b : Block) → geometry.size b ≡ known_size own b
  pub decode : (b : Block) (at : SectorBytes) (i : ℕ) → geometry.decode b at i ≡ slice_index (content_of at b).bytes i
  pub torn : (b : Block) (at : SectorBytes) → geometry.torn b at ≡ (content_of at b).torn
  pub has_spelling : (b : Block) (bytes : BodyBytes) → geometry.has_spelling b bytes ≡ has_spelling b.kind (first_bytes (512 * sectors b.kind) bytes)

-- the sectors from this one on are the new ones
abbrev pub sectors_from : ℕ → List (List ℕ) → SectorBytes
sectors_from first new s = sector_of new (s - first)

-- the sectors by which a body of this kind is written, under this check word
abbrev pub body_sectors : BlockKind → ℕ → BodyBytes → List (List ℕ)
body_sectors kind check bytes = sectors_of (spelled kind check (first_bytes (512 * sectors kind) bytes))

-- ---- windows of contents

-- the content whose bodies have these bytes, and are torn there
abbrev pub content_with : AllBytes → (Block → Bool) → Content
content_with bytes torn b = record { bytes = first_bytes (512 * sectors b.kind) (bytes b); torn = torn b }

-- What a layer above sees of a store: the present content, whether a transaction is open, how many commits aren't known durable, and the content so many
-- commits back.
pub record ContentWindow : Type 0 where
  pub present : Content
  pub is_open : Bool
  pub waiting : ℕ
  pub before : ℕ → Content

-- the window of a store in these words
abbrev pub window_of : Window → ContentWindow
window_of w = record { present = content_with w.body w.is_torn; is_open = w.is_open; waiting = length w.waiting; before = λ k. content_with (member w k) (w.was_torn k) }

-- each byte of a content
abbrev pub bytes_in : Content → AllBytes
bytes_in content b i = slice_index (content b).bytes i

-- a store as a mount leaves it, on a disk that bears this content
abbrev pub mounted_on : ℕ → Content → Disk → Store
mounted_on tx content disk = mounted tx (bytes_in content) (λ b. (content b).torn) disk

-- whatever a crash leaves of this disk has each known block as it is in this content, and torn at most where it is torn there
abbrev pub BearsContent : (ℕ → Bool) → Disk → Content → Type 0
BearsContent own disk content = (at : SectorBytes) (b : Block) → CanLeave disk at → is_known own b ≡ true
    → ((content_of at b).bytes ≡ (content b).bytes) × ((content_of at b).torn ≡ true → (content b).torn ≡ true)

-- ---- recovery

-- each sector has 512 bytes
abbrev pub AreWhole : SectorBytes → Type 0
AreWhole at = (s : ℕ) → length (at s) ≡ 512

-- Recovery by this list leaves the block as it is in this content: its bytes are equal, and it is torn at most where it is torn there.
pub record IsRecovered (list : List Entry) (at : SectorBytes) (content : Content) (b : Block) : Type 0 where
  pub bytes : (recovered (content_of at) list b).bytes ≡ (content b).bytes
  pub torn : (recovered (content_of at) list b).torn ≡ true → (content b).torn ≡ true

-- so it leaves each known block that the list doesn't shadow
abbrev pub RecoversToContent : (ℕ → Bool) → List Entry → SectorBytes → Content → Type 0
RecoversToContent own list at content = (b : Block) → is_known own b ≡ true → is_shadowed list b ≡ false → IsRecovered list at content b
