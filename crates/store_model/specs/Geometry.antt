-- How the blocks of a store lie on the sectors of its disk, and what a write puts there.
use Rattle.std.specs.Prelude.{◌≡◌, ◌⊎◌, ◌<◌, ℕ, List, ◌∷◌, Bool, true, false}
use Rattle.log_model.specs.disk_model.declared.block.Block.{Block}
use Rattle.log_model.specs.disk_model.Sectors.{same_block, are_rivals}
use Rattle.sector_device.specs.Disks.{Disk, MayHold}
use Rattle.store_model.specs.Logs.{BodyBytes, AllBytes}

-- the bytes of each sector
abbrev pub SectorBytes : Type 0
SectorBytes = ℕ → List ℕ

-- a crash may leave these sectors: it chooses for each by itself
abbrev pub CanLeave : Disk → SectorBytes → Type 0
CanLeave disk image = (s : ℕ) → MayHold disk s (image s)

-- How blocks lie on sectors, and what a read makes of them.
pub record Geometry : Type 0 where
  pub has : Block → ℕ → Bool  -- the block has this sector
  pub size : Block → ℕ  -- the bytes of its body; 0 where the block isn't known
  pub decode : Block → SectorBytes → BodyBytes
  pub torn : Block → SectorBytes → Bool
  pub has_spelling : Block → BodyBytes → Bool  -- some sectors read back as this body, untorn
  -- known blocks that are neither equal nor rivals share no sector
  pub off : (b c : Block) → 0 < size b → 0 < size c → are_rivals b c ≡ false → same_block c b ≡ false → (s : ℕ) → has b s ≡ true → has c s ≡ false
  -- equal sectors of a block: equal bytes, and equally torn
  pub own : (b : Block) (f g : SectorBytes) (i : ℕ) → ((s : ℕ) → has b s ≡ true → f s ≡ g s) → decode b f i ≡ decode b g i
  pub own_torn : (b : Block) (f g : SectorBytes) → ((s : ℕ) → has b s ≡ true → f s ≡ g s) → torn b f ≡ torn b g

-- these sectors have the block as in a content: this byte of it, and torn at most where it is torn there
abbrev pub Shows : Geometry → SectorBytes → (b : Block) (i : ℕ) (bytes : AllBytes) (torn : Block → Bool) → Type 0
Shows geometry sectors b i bytes torn = (geometry.decode b sectors i ≡ bytes b i) × (geometry.torn b sectors ≡ true → torn b ≡ true)

-- A write of a block that may have reached any of its sectors, and no other.
pub record Puts (geometry : Geometry) (block : Block) (new : SectorBytes) (before after : Disk) : Type 0 where
  pub durable : (s : ℕ) → after.durable s ≡ before.durable s
  pub own : (s : ℕ) → geometry.has block s ≡ true → (after.written s ≡ before.written s) ⊎ (after.written s ≡ new s ∷ before.written s)
  pub other : (s : ℕ) → geometry.has block s ≡ false → after.written s ≡ before.written s

-- a write that reached them all
pub record PutsAll (geometry : Geometry) (block : Block) (new : SectorBytes) (before after : Disk) : Type 0 where
  pub durable : (s : ℕ) → after.durable s ≡ before.durable s
  pub own : (s : ℕ) → geometry.has block s ≡ true → after.written s ≡ new s ∷ before.written s
  pub other : (s : ℕ) → geometry.has block s ≡ false → after.written s ≡ before.written s

-- two blocks share no sector
abbrev pub AreApart : Geometry → Block → Block → Type 0
AreApart geometry b c = (s : ℕ) → geometry.has b s ≡ true → geometry.has c s ≡ false
