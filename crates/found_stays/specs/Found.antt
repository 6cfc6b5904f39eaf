-- The blocks by which a log is found, which no call of a store writes: their sectors are as they were at first, whatever a crash leaves.
use Rattle.std.specs.Prelude.{◌≡◌, ◌⊎◌, ℕ, ◌<◌, Bool, true, false, List, [], IfSome}
use Rattle.std.specs.List.{list_any}
use Rattle.disk_model.specs.declared.block.Block.{Block}
use Rattle.disk_model.specs.Sectors.{sectors, sector_of, same_block}
use Rattle.disk_model.specs.Content.{content_of}
use Rattle.sector_device.specs.Disks.{Disk, is_within}
use Rattle.sector_device.specs.Moments.{Changes, LeftSince}
use Rattle.txn_core.specs.log_page.declared.places.LogPlace.{LogPlace}
use Rattle.txn_core.specs.log_area.Areas.{page_first}
use Rattle.txn_core.specs.store_model.Geometry.{SectorBytes}

-- the sector is one of these blocks'
abbrev pub is_in : List Block → ℕ → Bool
is_in found s = list_any (λ (b : Block). is_within b.first (sectors b.kind) s) found

-- Each sector of these blocks is durable as it was at first, and none was written since.
abbrev pub HasFirst : List Block → SectorBytes → Disk → Type 0
HasFirst found first disk = (s : ℕ) → is_in found s ≡ true → (disk.written s ≡ []) × (disk.durable s ≡ first s)

-- so it is of the disk, where it is known
abbrev pub StaysFirst : List Block → SectorBytes → Changes → Type 0
StaysFirst found first changes = IfSome changes.disk (HasFirst found first)

-- no sector of these blocks is one of the log's pages
abbrev pub AreOffLog : LogPlace → List Block → Type 0
AreOffLog place found = (s k : ℕ) → is_in found s ≡ true → k < place.pages → is_within (page_first place k) 8 s ≡ false

-- these sectors bear what was there at first
abbrev pub BearsFirst : List Block → SectorBytes → SectorBytes → Type 0
BearsFirst found first image = (b : Block) → list_any (same_block b) found ≡ true → content_of image b ≡ content_of first b

-- Over a call the sectors stay as they were at first; and each image that counts as left since a moment counted so before, or bears what was there.
pub record StaysOver (count : ℕ) (found : List Block) (first : SectorBytes) (old now : Changes) : Type 0 where
  pub stays : StaysFirst found first old → StaysFirst found first now
  pub left : StaysFirst found first old → (t : ℕ) (image : List (List ℕ)) → LeftSince count now t image → LeftSince count old t image ⊎ BearsFirst found first (sector_of image)
