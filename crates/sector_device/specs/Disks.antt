-- What a crash may leave of a device, as data: of each sector the durable value, and those written
-- since the last sync.
use Rattle.std.specs.Prelude.{◌≡◌, ◌⊎◌, ⊤, ℕ, ◌+◌, ◌-◌, ◌≤◌, ◌<◌, nat_le, nat_lt, Bool, ◌&&◌, if◌then◌else◌, List, [], ◌∷◌, length, Option, Some, None, Contains}
use Rattle.disk_model.specs.Sectors.{sector_of}

-- Of each sector the durable value, and the values written since the last sync that succeeded, the
-- newest first.
pub record Disk : Type 0 where
  pub durable : ℕ → List ℕ
  pub written : ℕ → List (List ℕ)

abbrev pub newest : List (List ℕ) → List ℕ → List ℕ
newest [] durable = durable
newest (v ∷ vs) durable = v

-- what a read gives
abbrev pub seen : Disk → ℕ → List ℕ
seen disk s = newest (disk.written s) (disk.durable s)

-- what a crash may leave in a sector
abbrev pub MayHold : Disk → ℕ → List ℕ → Type 0
MayHold disk s value = (value ≡ disk.durable s) ⊎ Contains (disk.written s) value

-- a crash may leave this of so many sectors: it chooses for each by itself
pub record MayLeave (count : ℕ) (disk : Disk) (image : List (List ℕ)) : Type 0 where
  pub counted : length image ≡ count
  pub each : (s : ℕ) → MayHold disk s (sector_of image s)

-- a disk of before, and the last moment at which it was that
pub record Past : Type 0 where
  pub until : ℕ
  pub disk : Disk

-- a crash at some moment from t on, while the disk was one of these, could leave this
abbrev pub WasLeft : ℕ → List Past → ℕ → List (List ℕ) → Type 0
WasLeft count [] t image = ⊥
WasLeft count (p ∷ ps) t image = ((t ≤ p.until) × MayLeave count p.disk image) ⊎ WasLeft count ps t image

-- each of them was over before this moment
abbrev pub AreOver : ℕ → List Past → Type 0
AreOver moment [] = ⊤
AreOver moment (p ∷ ps) = (p.until < moment) × AreOver moment ps

-- nothing is unsynced
abbrev pub IsSettled : Disk → Type 0
IsSettled disk = (s : ℕ) → disk.written s ≡ []

-- the sector lies among so many from first on
abbrev pub is_within : ℕ → ℕ → ℕ → Bool
is_within first count s = nat_le first s && nat_lt s (first + count)

-- after a write of these sectors from first on
abbrev pub put : ℕ → List (List ℕ) → Disk → Disk
put first new disk = record { durable = disk.durable; written = λ s. if is_within first (length new) s then sector_of new (s - first) ∷ disk.written s else disk.written s }

-- after a sync
abbrev pub settled : Disk → Disk
settled disk = record { durable = seen disk; written = λ _. [] }

-- of each sector, by itself, the values written are those of before or those of after; the durable
-- values stay
pub record IsBetween (before after now : Disk) : Type 0 where
  pub durable : (s : ℕ) → now.durable s ≡ before.durable s
  pub written : (s : ℕ) → (now.written s ≡ before.written s) ⊎ (now.written s ≡ after.written s)

-- after a write that failed; of a disk that is not known nothing is said
abbrev pub IsTornDisk : ℕ → List (List ℕ) → Option Disk → Option Disk → Type 0
IsTornDisk first new (Some before) (Some now) = IsBetween before (put first new before) now
IsTornDisk first new (Some before) None = ⊥
IsTornDisk first new None (Some now) = ⊥
IsTornDisk first new None None = ⊤

-- what reads give is what is seen of the disk, and the one is known where the other is
abbrev pub SeesDisk : Option (List (List ℕ)) → Option Disk → Type 0
SeesDisk (Some gives) (Some disk) = (s : ℕ) → sector_of gives s ≡ seen disk s
SeesDisk (Some gives) None = ⊥
SeesDisk None (Some disk) = ⊥
SeesDisk None None = ⊤

-- each value has 512 bytes
pub record IsSized (disk : Disk) : Type 0 where
  pub durable : (s : ℕ) → length (disk.durable s) ≡ 512
  pub written : (s : ℕ) (value : List ℕ) → Contains (disk.written s) value → length value ≡ 512

-- from this sector on none is ever written
abbrev pub EndsAt : ℕ → Disk → Type 0
EndsAt count disk = (s : ℕ) → count ≤ s → disk.written s ≡ []
