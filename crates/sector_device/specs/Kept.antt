-- The calls that a device in memory keeps, the newest first, and what they say of its disk.
use Rattle.std.specs.Prelude.{◌≡◌, ◌⊎◌, ⊤, ℕ, ◌+◌, ◌-◌, ◌≤◌, Bool, if◌then◌else◌, List, [], ◌∷◌, ◌++◌, length, min, Result, OnOk, OnErr}
use Rattle.std.specs.Coded.{×_prop, Unit-prop, le_prop}
use Rattle.disk_model.specs.Bytes.{written}
use Rattle.disk_model.specs.Sectors.{sector_of, raw_from}
use Rattle.sector_device.specs.Sectors.{sectors_of}
use Rattle.sector_device.specs.Disks.{Disk, Past, is_within}
use Rattle.sector_device.specs.declared.memory.KeptCall.{KeptCall}
use Rattle.sector_device.specs.declared.memory.KeptCall.TheVariants.{Read, Write, Sync, Failed}

-- a sector's values since the last sync, the newest first, where it is now this
abbrev pub written_by : ℕ → List ℕ → List KeptCall → List (List ℕ)
written_by s now [] = []
written_by s now (Read ∷ calls) = written_by s now calls
written_by s now (Failed ∷ calls) = written_by s now calls
written_by s now (Sync at ∷ calls) = []
written_by s now (Write at first old ∷ calls) = if is_within first (length (sectors_of old)) s then now ∷ written_by s (sector_of (sectors_of old) (s - first)) calls else written_by s now calls

-- its durable value
abbrev pub durable_by : ℕ → List ℕ → List KeptCall → List ℕ
durable_by s now [] = now
durable_by s now (Read ∷ calls) = durable_by s now calls
durable_by s now (Failed ∷ calls) = durable_by s now calls
durable_by s now (Sync at ∷ calls) = now
durable_by s now (Write at first old ∷ calls) = if is_within first (length (sectors_of old)) s then durable_by s (sector_of (sectors_of old) (s - first)) calls else durable_by s now calls

abbrev pub disk_by : List (List ℕ) → List KeptCall → Disk
disk_by now calls = record { durable = λ s. durable_by s (sector_of now s) calls; written = λ s. written_by s (sector_of now s) calls }

-- the disks of before
abbrev pub past_by : List (List ℕ) → List KeptCall → List Past
past_by now [] = []
past_by now (Read ∷ calls) = past_by now calls
past_by now (Failed ∷ calls) = past_by now calls
past_by now (Sync at ∷ calls) = record { until = at + 1; disk = disk_by now calls } ∷ past_by now calls
past_by now (Write at first old ∷ calls) = record { until = at + 1; disk = disk_by (written first (sectors_of old) now) calls } ∷ past_by (written first (sectors_of old) now) calls

-- each was over at this moment, and wrote inside the device
abbrev pub AreKept : ℕ → ℕ → List KeptCall → Type 0
AreKept moment count [] = ⊤
AreKept moment count (Read ∷ calls) = AreKept moment count calls
AreKept moment count (Failed ∷ calls) = AreKept moment count calls
AreKept moment count (Sync at ∷ calls) = (at + 2 ≤ moment) × AreKept moment count calls
AreKept moment count (Write at first old ∷ calls) = (at + 2 ≤ moment) × ((first + length (sectors_of old) ≤ count) × AreKept moment count calls)

pub AreKept-prop : (moment count : ℕ) (calls : List KeptCall) → IsProp (AreKept moment count calls)
AreKept-prop moment count [] = Unit-prop
AreKept-prop moment count (Read ∷ calls) = AreKept-prop moment count calls
AreKept-prop moment count (Failed ∷ calls) = AreKept-prop moment count calls
AreKept-prop moment count (Sync at ∷ calls) = ×_prop le_prop (AreKept-prop moment count calls)
AreKept-prop moment count (Write at first old ∷ calls) = ×_prop le_prop (×_prop le_prop (AreKept-prop moment count calls))

-- what is kept of a call that changes nothing, of a sync and of a write
abbrev pub quiet_call : Bool → KeptCall
quiet_call fails = if fails then Failed else Read

abbrev pub sync_call : ℕ → KeptCall
sync_call at = Sync at

abbrev pub write_call : ℕ → ℕ → List ℕ → KeptCall
write_call at first old = Write at first old

-- one call more is kept, or nothing where there is no memory
pub record Adds {T E : Type 0} (call : KeptCall) (result : Result T E) (old now : List KeptCall) : Type 0 where
  pub ok : OnOk result (now ≡ old ++ call ∷ [])
  pub err : OnErr result (now ≡ old)

-- A call that went well is kept as the one, behind those of before. Of one that failed nothing is
-- kept, or the other.
pub record Keeps {T E : Type 0} (good failed : KeptCall) (result : Result T E) (old now : List KeptCall) : Type 0 where
  pub ok : OnOk result (now ≡ old ++ good ∷ [])
  pub err : OnErr result ((now ≡ old) ⊎ (now ≡ old ++ failed ∷ []))

abbrev pub KeepsRead : {T E : Type 0} → Result T E → List KeptCall → List KeptCall → Type 0
KeepsRead result old now = Keeps Read Failed result old now

abbrev pub KeepsSync : {T E : Type 0} → ℕ → Result T E → List KeptCall → List KeptCall → Type 0
KeepsSync moment result old now = Keeps (Sync moment) Failed result old now

-- a write is kept with the moment before it and the bytes that it wrote over: those of all its
-- sectors, or of the first so many where it fails
abbrev pub KeepsWrite : {T E : Type 0} → ℕ → ℕ → ℕ → ℕ → List (List ℕ) → Result T E → List KeptCall → List KeptCall → Type 0
KeepsWrite moment first count tearing disk result old now =
    Keeps (Write moment first (raw_from (sector_of disk) first count)) (Write moment first (raw_from (sector_of disk) first (min tearing count))) result old now
