-- The laws of what a crash may leave.
use Rattle.std.specs.Prelude.{◌≡◌, ◌⊎◌, ℕ, ◌+◌, ◌-◌, ◌<◌, ◌≤◌, List, length, Some}
use Rattle.disk_model.specs.Sectors.{sector_of}
use Rattle.sector_device.specs.Sectors.{IsDiskOf}
use Rattle.sector_device.specs.Disks.{Disk, MayHold, MayLeave, AreOver, IsSettled, IsSized, IsBetween, SeesDisk, put, settled, seen}
use Rattle.sector_device.specs.Moments.{Changes, Remembers, MayLeaveNow, LeftSince}

-- what is left since the present moment is what a crash may leave now
abbrev pub PresentIsNow : Type 0
PresentIsNow = (count moment : ℕ) (c : Changes) (image : List (List ℕ)) → AreOver moment c.past → LeftSince count c moment image → MayLeaveNow count c image

-- after one call more, what is left since a moment was left before, or may be left now
abbrev pub OneCallMore : Type 0
OneCallMore = (count moment t : ℕ) (old now : Changes) (image : List (List ℕ)) → Remembers moment old now → t ≤ moment → LeftSince count now t image → LeftSince count old t image ⊎ MayLeaveNow count now image

-- and what was left before is left
abbrev pub NoneIsForgotten : Type 0
NoneIsForgotten = (count moment t : ℕ) (old now : Changes) (d e : Disk) (image : List (List ℕ)) → old.disk ≡ Some d → now.disk ≡ Some e → Remembers moment old now → t ≤ moment → LeftSince count old t image → LeftSince count now t image

-- where nothing is unsynced, there is one image
abbrev pub SettledIsOne : Type 0
SettledIsOne = (count : ℕ) (disk : Disk) (a b : List (List ℕ)) → IsSettled disk → MayLeave count disk a → MayLeave count disk b → a ≡ b

-- what reads give is an image
abbrev pub SeenIsLeft : Type 0
SeenIsLeft = (count : ℕ) (disk : Disk) (gives : List (List ℕ)) → IsDiskOf count gives → SeesDisk (Some gives) (Some disk) → MayLeave count disk gives

-- an image is so many sectors of 512 bytes each
abbrev pub ImageIsDisk : Type 0
ImageIsDisk = (count : ℕ) (disk : Disk) (image : List (List ℕ)) → IsSized disk → MayLeave count disk image → IsDiskOf count image

-- Between the disk before a write and that after it, as each write leaves it whatever it answers, a
-- sector may hold what it might have held before, or the new value where it is written.
abbrev pub WrittenOrBefore : Type 0
WrittenOrBefore = (first s : ℕ) (new : List (List ℕ)) (d e : Disk) (value : List ℕ) → IsBetween d (put first new d) e → MayHold e s value → MayHold d s value ⊎ ((first ≤ s) × (s < first + length new) × (value ≡ sector_of new (s - first)))

-- after a sync a sector holds what reads give
abbrev pub SettledIsSeen : Type 0
SettledIsSeen = (d : Disk) (s : ℕ) (value : List ℕ) → MayHold (settled d) s value → value ≡ seen d s
