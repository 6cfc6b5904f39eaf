-- What a mount has before it writes.
use Rattle.std.specs.Prelude.{◌≡◌, ℕ, ◌^◌, ◌<◌, nat_le, nat_lt, ◌&&◌, Bool, true, false, List, Option, Result, Err, All, IfSome, replicate}
use Rattle.host_base.specs.declared.outside.Failed.{Failed}
use Rattle.disk_model.specs.declared.block.Block.{Block}
use Rattle.disk_model.specs.Content.{content_of}
use Rattle.sector_device.specs.Disks.{Disk, seen}
use Rattle.sector_device.specs.Moments.{Changes}
use Rattle.log_model.specs.declared.entry.Entry.{Entry}
use Rattle.txn_core.specs.log_page.declared.places.LogPlace.{LogPlace}
use Rattle.txn_core.specs.log_page.Places.{sequence_bits}
use Rattle.txn_core.specs.log_area.Areas.{LogAreaOf, new_area, ring_size}
use Rattle.log_recovery.specs.declared.found.RecoveredBlock.{RecoveredBlock}
use Rattle.log_recovery.specs.declared.whole.Recovered.{Recovered}
use Rattle.log_recovery.specs.declared.writing.ToWrite.{ToWrite}
use Rattle.log_recovery.specs.Recovering.{AreRecovered, IsSized}
use Rattle.log_recovery.specs.Writing.{state_with}
use Rattle.txn_core.specs.txn_laws.Laws.{first_lsn, opened_area}
use Rattle.txn_mount.specs.declared.fault.StoreFault.{StoreFault}
use Rattle.txn_mount.specs.declared.fault.StoreFault.TheVariants.{Broken}
use Rattle.txn_mount.specs.declared.puts.PutOut.{PutOut}
use Rattle.txn_mount.specs.declared.room.MountPlan.{MountPlan}
use Rattle.txn_mount.specs.Calls.{MountsBy}
use Rattle.txn_mount.specs.Laws.{MayMount}
use Rattle.txn_mount.specs.Puts.{items_of, AreKeys}

-- a session may begin with what was found: the LSNs of its first lap have 64 bits, and its first restart page has one of two places, and a small open count
abbrev pub is_level : ℕ → Recovered → Bool
is_level pages found = nat_le 1 found.next_lap && nat_lt found.next_lap (2 ^ sequence_bits pages) && nat_le found.restart 1 && nat_le found.opens (2 ^ 31)

-- none may begin, and this is answered
pub record IsUnlevel (pages : ℕ) (found : Recovered) (fault : StoreFault) : Type 0 where
  pub unlevel : is_level pages found ≡ false
  pub answer : fault ≡ Broken

-- the bodies that recovery made
abbrev pub bodies_in : ToWrite → List RecoveredBlock
bodies_in found = found.recovered.blocks.bodies.items

-- the blocks that are put out by these keys, with their bodies
abbrev pub items_by : ToWrite → List PutOut → List RecoveredBlock
items_by found keys = items_of (bodies_in found) keys

-- the first LSN of the new session
abbrev pub lsn_behind : LogPlace → Recovered → ℕ
lsn_behind place found = first_lsn place found.next_lap found.restart found.opens

-- the ring of its log, once its first restart page was written and synced
abbrev pub area_behind : LogPlace → Recovered → LogAreaOf
area_behind place found = opened_area place found.next_lap found.restart found.opens

-- What a mount has taken for a device of so many sectors.
pub record IsPlan (place : LogPlace) (count : ℕ) (plan : MountPlan) : Type 0 where
  pub level : is_level place.pages plan.found.recovered ≡ true
  pub sized : All IsSized (bodies_in plan.found)
  pub chosen : AreKeys count (bodies_in plan.found) plan.keys.items
  pub ring : plan.log ≡ new_area place plan.found.recovered.next_lap plan.found.recovered.restart plan.found.recovered.opens
  pub first : plan.oldest ≡ lsn_behind place plan.found.recovered
  pub low : lsn_behind place plan.found.recovered < 2 ^ 64
  pub counted : plan.ends.items ≡ replicate (ring_size plan.log) 0

-- what is written by a plan
abbrev pub WritesPlan : {D : Type 0} → (D → Option (List (List ℕ))) → (D → Changes) → (D → ℕ) → LogPlace → MountPlan → Result (Unit {0}) Failed → D → D → Type 0
WritesPlan gives changes moment place plan result old new =
    MountsBy gives changes moment (items_by plan.found plan.keys.items) (new_area place plan.found.recovered.next_lap plan.found.recovered.restart plan.found.recovered.opens) (lsn_behind place plan.found.recovered) result old new

-- one of these calls failed
abbrev pub StopsWriting : {D : Type 0} → (D → Option (List (List ℕ))) → (D → Changes) → (D → ℕ) → LogPlace → MountPlan → D → D → Type 0
StopsWriting gives changes moment place plan old new = (failed : Failed) × WritesPlan gives changes moment place plan (Err failed) old new

-- What was found by these entries is what recovery makes of a known disk, and what is put out is what a mount may put out there.
pub record PlansOn (place : LogPlace) (kept : List Block) (found : ToWrite) (keys : List PutOut) (disk : Disk) : Type 0 where
  pub list : List Entry
  pub may : MayMount place kept (state_with list found.recovered) (items_by found keys) disk
  pub made : AreRecovered (content_of (seen disk)) list found.recovered.blocks

-- the same of what a mount has taken, where the disk is known
abbrev pub IsPlanOn : Option Disk → LogPlace → List Block → MountPlan → Type 0
IsPlanOn disk place kept plan = IfSome disk (PlansOn place kept plan.found plan.keys.items)
