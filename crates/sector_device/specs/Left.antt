-- How an image is made out of kept calls, from the newest back: what is kept while it is.
use Rattle.std.specs.Prelude.{◌≡◌, ◌⊎◌, ⊤, ℕ, ◌+◌, ◌≤◌, nat_lt, Bool, true, false, if◌then◌else◌, List, [], ◌∷◌, length, slice_index_or, Contains}
use Rattle.disk_model.specs.Bytes.{written}
use Rattle.disk_model.specs.Sectors.{sector_of}
use Rattle.sector_device.specs.Sectors.{sectors_of}
use Rattle.sector_device.specs.Disks.{Disk, MayHold, MayLeave, WasLeft}
use Rattle.sector_device.specs.Kept.{written_by, durable_by, disk_by, past_by}
use Rattle.sector_device.specs.declared.memory.KeptCall.{KeptCall}
use Rattle.sector_device.specs.declared.memory.KeptCall.TheVariants.{Read, Write, Sync, Failed}

-- the sectors before a kept call
abbrev pub before_call : KeptCall → List (List ℕ) → List (List ℕ)
before_call Read now = now
before_call Failed now = now
before_call (Sync at) now = now
before_call (Write at first old) now = written first (sectors_of old) now

-- before all of them, the newest first
abbrev pub before_calls : List KeptCall → List (List ℕ) → List (List ℕ)
before_calls [] now = now
before_calls (call ∷ calls) now = before_calls calls (before_call call now)

abbrev pub is_sync : KeptCall → Bool
is_sync Read = false
is_sync Failed = false
is_sync (Sync at) = true
is_sync (Write at first old) = false

-- each wrote inside so many sectors
abbrev pub IsInside : ℕ → KeptCall → Type 0
IsInside count Read = ⊤
IsInside count Failed = ⊤
IsInside count (Sync at) = ⊤
IsInside count (Write at first old) = first + length (sectors_of old) ≤ count

abbrev pub AreInside : ℕ → List KeptCall → Type 0
AreInside count [] = ⊤
AreInside count (call ∷ calls) = IsInside count call × AreInside count calls

-- what calls say that a crash may leave now, or might have left since the first one
abbrev pub LeftBy : ℕ → List (List ℕ) → List KeptCall → List (List ℕ) → Type 0
LeftBy count now calls image = MayLeave count (disk_by now calls) image ⊎ WasLeft count (past_by now calls) 0 image

-- a value that calls say of a sector that has this one now
abbrev pub MayHoldBy : ℕ → List ℕ → List KeptCall → List ℕ → Type 0
MayHoldBy s now calls value = (value ≡ durable_by s now calls) ⊎ Contains (written_by s now calls) value

-- Each decided sector has a value that the disk may hold; of each other the calls that are left say
-- none but such. Of the sectors below upto these calls are left, and of the others those.
pub record IsFair (disk : Disk) (image : List (List ℕ)) (decided : List Bool) (upto : ℕ) (after before : List KeptCall) : Type 0 where
  pub done : (s : ℕ) → slice_index_or decided s false ≡ true → MayHold disk s (sector_of image s)
  pub left : (s : ℕ) (value : List ℕ) → slice_index_or decided s false ≡ false → MayHoldBy s (sector_of image s) (if nat_lt s upto then after else before) value → MayHold disk s value

-- a sector is decided, with the value that it has, or it was decided before; or it isn't, and has
-- the old value
pub record Decides (s : ℕ) (old : List ℕ) (image later : List (List ℕ)) (decided now : List Bool) : Type 0 where
  pub others : (k : ℕ) → (k ≡ s → ⊥) → (slice_index_or now k false ≡ slice_index_or decided k false) × (sector_of later k ≡ sector_of image k)
  pub here : ((slice_index_or now s false ≡ true) × (sector_of later s ≡ sector_of image s)) ⊎ ((slice_index_or decided s false ≡ false) × ((slice_index_or now s false ≡ false) × (sector_of later s ≡ old)))
