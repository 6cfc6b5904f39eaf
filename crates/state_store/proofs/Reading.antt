-- A store behind its view, once the view is done with; and why its map wasn't prepared.
use Rattle.std.proofs.Common.{◌≡◌, subst, ℕ, ◌≤◌, List, Option, Some, None, Result, Ok, Err, refl, sym, ap, ◌∙◌}
use Rattle.std.specs.Prelude.{IfSome}
use Rattle.host_base.specs.Answers.{Cause, GivesOrFails}
use Rattle.host_base.specs.Causes.{Rose, Counts}
use Rattle.disk_model.specs.declared.block.Change.{Change}
use Rattle.sector_device.specs.Moments.{Changes}
use Rattle.block_view.specs.Changes.{content_after}
use Rattle.turn_laws.specs.device_view.Devices.{BorrowedDevice, failures, CountsOnDevice}
use Rattle.turn_laws.proofs.device_view.Keeping.{device_failed, device_counts}
use Rattle.same_names.specs.volume_map.declared.fault.MapFault.{MapFault}
use Rattle.same_names.specs.volume_map.declared.fault.MapFault.TheVariants as faults
use Rattle.same_names.specs.volume_map.Errors.{map_cause}
use Rattle.same_names.specs.map_change.record_model.Records.{Record}
use Rattle.same_names.specs.map_change.Parts.{MapParts, map_of}
use Rattle.same_names.specs.map_change.Applying.{applied}
use Rattle.same_names.specs.map_change.declared.change.MapChange.{MapChange}
use Rattle.turn_laws.specs.txn_state.States.{StateOf}
use Rattle.turn_laws.specs.txn_core.Seen.{Seen}
use Rattle.turn_laws.specs.txn_core.Views.{BorrowedStore, borrowed_store, present_content}
use Rattle.state_store.specs.declared.fault.PutFault.{PutFault}
use Rattle.state_store.specs.declared.fault.PutFault.TheVariants.{Fault, Broken}
use Rattle.state_store.specs.Volumes.{geometry_of}
use Rattle.state_store.specs.Preparing.{FailsSeen, CountsSeen, HaveMaps, NeverShort, prepare_fault}
use Rattle.state_store.specs.Puts.{put_cause}

-- ---- the store behind a view

of_device : BorrowedStore → BorrowedDevice
of_device b = record { reference = b.reference; gives = b.gives; sectors = b.sectors; changes = b.changes; faults_before = b.faults_before; moment_before = b.moment_before }

-- What the view says of its failures, the store's device says of its own.
pub store_failed : {D : Type 0} (gives : D → Option (List (List ℕ))) (count : D → ℕ) (changes : D → Changes) (faults moment : D → ℕ) (old last x : Seen D) {began : ℕ} (given reference before first : ℕ)
    → borrowed_store gives count changes reference last before began ≡ borrowed_store gives count changes given old (faults old.device) (moment old.device) → failures (faults old.device) (moment old.device) ≤ first → Rose first (failures (faults last.device) (moment last.device)) → (given ≡ reference → x ≡ last)
    → FailsSeen faults moment old x
unfolding of_device
store_failed {D} gives count changes faults moment old last x given reference before first kept more rose ended =
    record { failed = device_failed gives count changes faults moment old.device last.device x.device given reference before first (ap of_device kept) more rose (λ is. ap (λ (s : Seen D). s.device) (ended is)) }

pub store_counts : {D T E F : Type 0} (cause : E → Cause F) (result : Result T E) (gives : D → Option (List (List ℕ))) (count : D → ℕ) (changes : D → Changes) (faults moment : D → ℕ) (old last x : Seen D) {began : ℕ} (given reference before first : ℕ)
    → borrowed_store gives count changes reference last before began ≡ borrowed_store gives count changes given old (faults old.device) (moment old.device) → first ≡ failures (faults old.device) (moment old.device) → before ≤ faults last.device
    → Counts cause first (failures (faults last.device) (moment last.device)) result → (given ≡ reference → x ≡ last) → CountsSeen faults moment cause result old x
unfolding of_device
store_counts {D} cause result gives count changes faults moment old last x given reference before first kept is more counts ended = record {
  counted = λ early. device_counts cause result gives count changes faults moment old.device last.device x.device given reference before first (ap of_device kept) is more counts (λ same. ap (λ (s : Seen D). s.device) (ended same)) early;
}

-- ---- why a map isn't prepared

refused_known : (may : List (Option Record) → List (Option Record) → Type 0) (m : MapParts) (changes : List Change) (known : Option (List (List ℕ))) (state : StateOf) (fault : MapFault) → IfSome (present_content known state) (λ c. HaveMaps may m c (content_after changes c))
    → IfSome (present_content known state) (λ c. map_of c (geometry_of m) m.volume.clusters ≡ Ok m → GivesOrFails (λ (change : MapChange). applied change m) map_cause (Err fault) (map_of (content_after changes c) (geometry_of m) m.volume.clusters))
    → prepare_fault fault ≡ Broken → known ≡ None
refused_known may m changes None state fault maps answer is = refl
refused_known may m changes (Some disk) state (faults.Refused refusal) maps answer is = absurd (let none = answer maps.now in let some = maps.then in cc)
refused_known may m changes (Some disk) state faults.View maps answer is = absurd cc
refused_known may m changes (Some disk) state faults.Memory maps answer is = absurd cc

pub broken_unknown : (may : List (Option Record) → List (Option Record) → Type 0) (m : MapParts) (changes : List Change) (known : Option (List (List ℕ))) (state : StateOf) (fault : MapFault) → IfSome (present_content known state) (λ c. HaveMaps may m c (content_after changes c))
    → IfSome (present_content known state) (λ c. map_of c (geometry_of m) m.volume.clusters ≡ Ok m → GivesOrFails (λ (change : MapChange). applied change m) map_cause (Err fault) (map_of (content_after changes c) (geometry_of m) m.volume.clusters))
    → (why : PutFault) → why ≡ prepare_fault fault → why ≡ Broken → known ≡ None
broken_unknown may m changes known state fault maps answer why is broken = refused_known may m changes known state fault maps answer (sym is ∙ broken)

pub is_prepared : (may : List (Option Record) → List (Option Record) → Type 0) (m : MapParts) (changes : List Change) (known : Option (List (List ℕ))) (state : StateOf) (change : MapChange) → IfSome (present_content known state) (λ c. HaveMaps may m c (content_after changes c))
    → IfSome (present_content known state) (λ c. map_of c (geometry_of m) m.volume.clusters ≡ Ok m → GivesOrFails (λ (change : MapChange). applied change m) map_cause (Ok change) (map_of (content_after changes c) (geometry_of m) m.volume.clusters))
    → IfSome (present_content known state) (λ c. map_of (content_after changes c) (geometry_of m) m.volume.clusters ≡ Ok (applied change m))
is_prepared may m changes None state change maps answer = tt
is_prepared may m changes (Some disk) state change maps answer = answer maps.now

pub never_short : (fault : MapFault) (why : PutFault) → why ≡ prepare_fault fault → NeverShort {X = MapChange} (Err why)
never_short fault why is = subst (λ (e : PutFault). NeverShort {X = MapChange} (Err e)) (sym is) (by fault)
  where
    by : (e : MapFault) → NeverShort {X = MapChange} (Err (prepare_fault e))
    by (faults.Refused refusal) = tt
    by faults.View = tt
    by faults.Memory = tt

pub failed_view : (fault : MapFault) (why : PutFault) → why ≡ prepare_fault fault → why ≡ Fault → fault ≡ faults.View
failed_view (faults.Refused refusal) why is failed = absurd cc
failed_view faults.View why is failed = refl
failed_view faults.Memory why is failed = absurd cc

pub counted_fault : (before now moment : ℕ) (fault : MapFault) (why : PutFault) → why ≡ prepare_fault fault → CountsOnDevice {T = MapChange} map_cause before now moment (Err fault) → CountsOnDevice {T = MapChange} put_cause before now moment (Err why)
counted_fault before now moment fault why is counts = subst (λ (e : PutFault). CountsOnDevice {T = MapChange} put_cause before now moment (Err e)) (sym is) (by fault counts)
  where
    by : (e : MapFault) → CountsOnDevice {T = MapChange} map_cause before now moment (Err e) → CountsOnDevice {T = MapChange} put_cause before now moment (Err (prepare_fault e))
    by (faults.Refused refusal) is = is
    by faults.View is = is
    by faults.Memory is = is
