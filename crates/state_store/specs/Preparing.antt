-- What the reading of a store by a call leaves, and why a map isn't prepared.
use Rattle.std.specs.Prelude.{◌≡◌, ℕ, ◌<◌, ◌≤◌, ⊤, List, Option, Result, Ok, Err}
use Rattle.host_base.specs.Answers.{Cause}
use Rattle.host_base.specs.Causes.{HasFailed, last_moment}
use Rattle.disk_model.specs.Content.{Content}
use Rattle.sector_device.specs.Moments.{Changes}
use Rattle.turn_laws.specs.device_view.Devices.{CountsOnDevice}
use Rattle.same_names.specs.volume_map.declared.fault.MapFault.{MapFault}
use Rattle.same_names.specs.volume_map.declared.fault.MapFault.TheVariants as faults
use Rattle.same_names.specs.map_change.Parts.{MapParts, map_of}
use Rattle.same_names.specs.map_change.record_model.Records.{Record}
use Rattle.turn_laws.specs.txn_core.Seen.{Seen}
use Rattle.state_store.specs.declared.fault.PutFault.{PutFault}
use Rattle.state_store.specs.declared.fault.PutFault.TheVariants.{NeedsRoom, Fault, Memory, Broken}
use Rattle.state_store.specs.Volumes.{geometry_of}

-- The store's device was only read, and what it holds in memory stays.
pub record KeepsSeen {D : Type 0} (gives : D → Option (List (List ℕ))) (count : D → ℕ) (changes : D → Changes) (faults moment : D → ℕ) (old new : Seen D) : Type 0 where
  pub state : new.state ≡ old.state
  pub words : new.words ≡ old.words
  pub same : gives new.device ≡ gives old.device
  pub sectors : count new.device ≡ count old.device
  pub unchanged : changes new.device ≡ changes old.device
  pub later : faults old.device ≤ faults new.device
  pub onwards : moment old.device ≤ moment new.device

-- The device of a store failed in a call; and a failure has its cause, where the device's last moment had not come before.
pub record FailsSeen {D : Type 0} (faults moment : D → ℕ) (old new : Seen D) : Type 0 where
  pub failed : HasFailed (faults old.device) (faults new.device) (moment new.device)

pub record CountsSeen {D T E F : Type 0} (faults moment : D → ℕ) (cause : E → Cause F) (result : Result T E) (old new : Seen D) : Type 0 where
  pub counted : moment old.device < last_moment → CountsOnDevice cause (faults old.device) (faults new.device) (moment new.device) result

-- the first content has this map, and the second one has some, of which the files may follow those of the first, by a rule of their names
pub record HaveMaps (may : List (Option Record) → List (Option Record) → Type 0) (m : MapParts) (c d : Content) : Type 0 where
  pub now : map_of c (geometry_of m) m.volume.clusters ≡ Ok m
  pub next : MapParts
  pub then : map_of d (geometry_of m) m.volume.clusters ≡ Ok next
  pub names : may m.volume.files next.volume.files

-- what a map's fault is to a volume
abbrev pub prepare_fault : MapFault → PutFault
prepare_fault (faults.Refused refusal) = Broken
prepare_fault faults.View = Fault
prepare_fault faults.Memory = Memory

-- it is answered that this holds, or that it doesn't; or memory was wanted
abbrev pub TellsWhether : {X : Type 0} → Result X PutFault → Type 0 → Type 0
TellsWhether (Ok x) Holds = Holds
TellsWhether (Err (NeedsRoom pages room)) Holds = ⊥
TellsWhether (Err Fault) Holds = ⊥
TellsWhether (Err Memory) Holds = ⊤
TellsWhether (Err Broken) Holds = Holds → ⊥

-- it isn't answered that there is no room
abbrev pub NeverShort : {X : Type 0} → Result X PutFault → Type 0
NeverShort (Ok x) = ⊤
NeverShort (Err (NeedsRoom pages room)) = ⊥
NeverShort (Err Fault) = ⊤
NeverShort (Err Memory) = ⊤
NeverShort (Err Broken) = ⊤
