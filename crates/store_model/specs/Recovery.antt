-- Recovery's own writes.
use Rattle.std.specs.Prelude.{◌≡◌, ◌≢◌, ◌⊎◌, ◌<◌, ℕ, Bool, true, false, List, [], None}
use Rattle.log_model.specs.disk_model.declared.block.Block.{Block}
use Rattle.sector_device.specs.Disks.{Disk, settled}
use Rattle.log_model.specs.declared.entry.Entry.{Entry}
use Rattle.log_model.specs.Logs.{told}
use Rattle.store_model.specs.Logs.{AllBytes, IsClaimed, has_update}
use Rattle.store_model.specs.Geometry.{SectorBytes, Geometry, Shows, CanLeave, Puts}
use Rattle.store_model.specs.Stores.{Restores}

-- a recovery of this list, on a disk that changes under it
pub record Recovering : Type 0 where
  pub list : List Entry
  pub disk : Disk
  pub renamed : Bool  -- the restart page that names an empty list was written, perhaps in part
  pub replaced : Bool  -- and a sync succeeded after a write of it that did

-- what a crash leaves: one of the two lists, and sectors
pub record MayStop (r : Recovering) (l : List Entry) (sectors : SectorBytes) : Type 0 where
  pub list : ((r.replaced ≡ false) × (l ≡ r.list)) ⊎ ((r.renamed ≡ true) × (l ≡ []))
  pub disk : CanLeave r.disk sectors

-- Each image left recovers to this content, on the blocks that the list doesn't shadow.
abbrev pub StillRecovers : Geometry → Recovering → AllBytes → (Block → Bool) → Type 0
StillRecovers geometry r content torn = (l : List Entry) (sectors : SectorBytes) → MayStop r l sectors → (b : Block) → IsClaimed r.list b → Restores geometry l sectors b content torn

-- a block that a crash leaves whole, old or new, as one of a single sector
abbrev pub IsWhole : Geometry → Block → Type 0
IsWhole geometry b = (s : ℕ) × (geometry.has b s ≡ true) × ((t : ℕ) → geometry.has b t ≡ true → t ≡ s)

-- A block may be written out: it has an update in the list and isn't shadowed, and the list covers it whole, or it is a single sector.
pub record MayRestore (geometry : Geometry) (r : Recovering) (b : Block) : Type 0 where
  pub early : r.renamed ≡ false
  pub known : 0 < geometry.size b
  pub updated : has_update r.list b ≡ true
  pub claimed : IsClaimed r.list b
  pub covered : ((i : ℕ) → i < geometry.size b → told r.list b i ≢ None) ⊎ IsWhole geometry b

-- these sectors read back as in the content
abbrev pub SpellsContent : Geometry → AllBytes → (Block → Bool) → Block → SectorBytes → Type 0
SpellsContent geometry content torn b new = (f : SectorBytes) (i : ℕ) → i < geometry.size b → ((s : ℕ) → geometry.has b s ≡ true → f s ≡ new s) → Shows geometry f b i content torn

-- everything that isn't shadowed stands on the disk
abbrev pub IsRestored : Geometry → Recovering → AllBytes → (Block → Bool) → Type 0
IsRestored geometry r content torn = (sectors : SectorBytes) (b : Block) (i : ℕ) → CanLeave r.disk sectors → i < geometry.size b → IsClaimed r.list b → Shows geometry sectors b i content torn

-- A step of a recovery: a block is written out, perhaps in part; a sync; the restart page that names an empty list is written, perhaps in part; a sync after it.
pub data Recovers (geometry : Geometry) (content : AllBytes) (torn : Block → Bool) (r : Recovering) : Recovering → Type 0 where
  restore : (b : Block) (new : SectorBytes) (disk : Disk) → MayRestore geometry r b → SpellsContent geometry content torn b new → Puts geometry b new r.disk disk → Recovers geometry content torn r (record r { disk = disk })
  settle : Recovers geometry content torn r (record r { disk = settled r.disk })
  rename : IsRestored geometry r content torn → Recovers geometry content torn r (record r { renamed = true })
  replace : r.renamed ≡ true → Recovers geometry content torn r (record r { disk = settled r.disk; replaced = true })

-- any number of them
pub data Recovery (geometry : Geometry) (content : AllBytes) (torn : Block → Bool) (r : Recovering) : Recovering → Type 0 where
  start : Recovery geometry content torn r r
  on : (t u : Recovering) → Recovery geometry content torn r t → Recovers geometry content torn t u → Recovery geometry content torn r u

-- a recovery of this list begins, on a disk of which each image recovers to the content
abbrev pub Begins : Geometry → List Entry → Disk → AllBytes → (Block → Bool) → Type 0
Begins geometry l disk content torn = (sectors : SectorBytes) → CanLeave disk sectors → (b : Block) → IsClaimed l b → Restores geometry l sectors b content torn

-- a recovery by this list at its beginning
abbrev pub recovering : List Entry → Disk → Recovering
recovering l disk = record { list = l; disk = disk; renamed = false; replaced = false }

-- a disk with these sectors, of which nothing is unsynced
abbrev pub disk_with : SectorBytes → Disk
disk_with at = record { durable = at; written = λ s. [] }

-- What a crash may leave after recoveries that were stopped, any number of them, the first of which began with this list and these sectors.
pub data IsStopped (geometry : Geometry) (content : AllBytes) (torn : Block → Bool) (first : List Entry) (sectors : SectorBytes) : List Entry → SectorBytes → Type 0 where
  never : IsStopped geometry content torn first sectors first sectors
  again : (list : List Entry) (at : SectorBytes) → IsStopped geometry content torn first sectors list at → (r : Recovering) → Recovery geometry content torn (recovering list (disk_with at)) r
      → (list' : List Entry) (at' : SectorBytes) → MayStop r list' at' → IsStopped geometry content torn first sectors list' at'
