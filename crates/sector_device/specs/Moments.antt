-- The moments of a device, its calls that aren't reads, and its disk.
use Rattle.std.specs.Prelude.{◌≡◌, ◌⊎◌, ℕ, ◌+◌, ◌≤◌, nat_lt, if◌then◌else◌, List, ◌∷◌, Option, Some, None, Result, IsErr, OnOk, OnErr, IfSome}
use Rattle.std.specs.Option.{option_map}
use Rattle.disk_model.specs.host_base.Causes.{last_moment}
use Rattle.sector_device.specs.Disks.{Disk, Past, MayLeave, WasLeft, put, settled, IsTornDisk}
use Rattle.sector_device.specs.declared.device.Call.{Call}
use Rattle.sector_device.specs.declared.device.Call.TheVariants.{Read, Write, Sync}

-- a call begins a moment and its return another, before the last one; from then on none begins
abbrev pub moment_after : ℕ → ℕ
moment_after moment = if nat_lt moment last_moment then moment + 2 else moment

-- a call failed and did nothing: what reads give and the count of faults stay
pub record DoesNothing {A T E : Type 0} (gives_before gives_now : Option A) (faults_before faults_now : ℕ) (result : Result T E) : Type 0 where
  pub failed : IsErr result
  pub gives : gives_now ≡ gives_before
  pub faults : faults_now ≡ faults_before

-- the writes and the syncs that were begun, the disk, where it is known, and the disks of before,
-- the newest first
pub record Changes : Type 0 where
  pub writes : ℕ
  pub syncs : ℕ
  pub disk : Option Disk
  pub past : List Past

-- one more was begun, before the last moment
abbrev pub count_after : ℕ → ℕ → ℕ
count_after moment n = if nat_lt moment last_moment then n + 1 else n

-- one call more was begun
abbrev pub with_call : Call → Changes → Changes
with_call Read c = c
with_call Write c = record c { writes = c.writes + 1 }
with_call Sync c = record c { syncs = c.syncs + 1 }

-- so many writes and syncs were begun
pub record Begins (more_writes more_syncs : ℕ) (before now : Changes) : Type 0 where
  pub written : now.writes ≡ before.writes + more_writes
  pub synced : now.syncs ≡ before.syncs + more_syncs

abbrev pub past_after : ℕ → Option Disk → List Past → List Past
past_after until None past = past
past_after until (Some disk) past = record { until = until; disk = disk } ∷ past

-- the disk becomes what this makes of it, and that of before was there until then
pub record IsChanged (until : ℕ) (change : Disk → Disk) (old now : Changes) : Type 0 where
  pub writes : now.writes ≡ old.writes
  pub syncs : now.syncs ≡ old.syncs
  pub disk : now.disk ≡ option_map change old.disk
  pub past : now.past ≡ past_after until old.disk old.past

-- a call that was begun at this moment: the disk of before is one of the past, or it is the disk
-- still
abbrev pub Remembers : ℕ → Changes → Changes → Type 0
Remembers moment old now = (now.past ≡ past_after (moment + 1) old.disk old.past) ⊎ ((now.past ≡ old.past) × (now.disk ≡ old.disk))

-- what a write at this moment does
pub record Writes {T E : Type 0} (moment first : ℕ) (new : List (List ℕ)) (result : Result T E) (old now : Changes) : Type 0 where
  pub writes : now.writes ≡ count_after moment old.writes
  pub syncs : now.syncs ≡ old.syncs
  pub ok : OnOk result (now.disk ≡ option_map (put first new) old.disk)
  pub err : OnErr result (IsTornDisk first new old.disk now.disk)
  pub past : Remembers moment old now
  pub ended : last_moment ≤ moment → now ≡ old

-- what a sync at this moment does
pub record Syncs {T E : Type 0} (moment : ℕ) (result : Result T E) (old now : Changes) : Type 0 where
  pub writes : now.writes ≡ old.writes
  pub syncs : now.syncs ≡ count_after moment old.syncs
  pub ok : OnOk result (now.disk ≡ option_map settled old.disk)
  pub err : OnErr result (now.disk ≡ old.disk)
  pub past : Remembers moment old now
  pub ended : last_moment ≤ moment → now ≡ old

-- a crash at this moment may leave this; of a disk that is not known nothing is said
abbrev pub MayLeaveNow : ℕ → Changes → List (List ℕ) → Type 0
MayLeaveNow count changes image = IfSome changes.disk (λ disk. MayLeave count disk image)

-- a crash at some moment from t until now, inside a call too, could leave this
abbrev pub LeftSince : ℕ → Changes → ℕ → List (List ℕ) → Type 0
LeftSince count changes t image = IfSome changes.disk (λ disk. MayLeave count disk image ⊎ WasLeft count changes.past t image)
