-- What a volume answers where changes are put, and what stands then.
use Rattle.std.specs.Prelude.{◌≡◌, ◌⊎◌, ℕ, suc, ◌<◌, ⊤, false, List, [], ◌∷◌, Option, None, IfSome, IfErr, Result, Ok, Err}
use Rattle.std.specs.Option.{option_map}
use Rattle.host_base.specs.Answers.{Cause, refused, no_memory, failed}
use Rattle.host_base.specs.Causes.{HasFailed, last_moment}
use Rattle.disk_model.specs.declared.block.Change.{Change}
use Rattle.disk_model.specs.Content.{Content}
use Rattle.sector_device.specs.Moments.{Changes}
use Rattle.block_view.specs.Changes.{content_after}
use Rattle.turn_laws.specs.device_view.Devices.{GoesOnwards, CountsOnDevice}
use Rattle.same_names.specs.map_change.Parts.{MapParts, map_of}
use Rattle.turn_laws.specs.txn_core.declared.fault.ChangeFault.{ChangeFault}
use Rattle.turn_laws.specs.txn_core.declared.fault.ChangeFault.TheVariants as faults
use Rattle.state_store.specs.declared.fault.PutFault.{PutFault}
use Rattle.state_store.specs.declared.fault.PutFault.TheVariants.{NeedsRoom, Fault, Memory, Broken}
use Rattle.turn_laws.specs.txn_model.Values.{StoreFacts}
use Rattle.turn_laws.specs.txn_state.States.{StateOf, facts_of}
use Rattle.turn_laws.specs.txn_core.Seen.{Seen}
use Rattle.turn_laws.specs.txn_core.Views.{present_content}
use Rattle.state_store.specs.Volumes.{geometry_of}
use Rattle.state_store.specs.Windows.{LeadsTo, AfterPutting}
use Rattle.state_store.specs.Logging.{HasCommitted}

-- why changes are put nowhere
abbrev pub put_cause : PutFault → Cause (Unit {0})
put_cause (NeedsRoom pages room) = refused tt
put_cause Fault = failed
put_cause Memory = no_memory
put_cause Broken = refused tt

-- what a change's fault is to a volume
abbrev pub change_put_fault : ChangeFault → PutFault
change_put_fault faults.Fault = Fault
change_put_fault faults.Memory = Memory
change_put_fault faults.Unspelled = Broken

-- the present content is the one after the changes, or stays
abbrev pub PutsContent : {E : Type 0} → Result (Unit {0}) E → List Change → (old new : Option Content) → Type 0
PutsContent (Ok u) changes old new = new ≡ option_map (content_after changes) old
PutsContent (Err e) changes old new = new ≡ old

-- the map is that of the content after the changes, or stays
abbrev pub PutsMap : {E : Type 0} → Result (Unit {0}) E → List Change → Option Content → (old new : MapParts) → Type 0
PutsMap (Ok u) changes known old new = IfSome known (λ c. map_of (content_after changes c) (geometry_of old) old.volume.clusters ≡ Ok new)
PutsMap (Err e) changes known old new = new ≡ old

-- one commit more; none where there is no change
abbrev pub commits_for : List Change → ℕ → ℕ
commits_for [] n = n
commits_for (x ∷ xs) n = suc n

abbrev pub commits_after : {E : Type 0} → Result (Unit {0}) E → List Change → ℕ → ℕ
commits_after (Ok u) changes n = commits_for changes n
commits_after (Err e) changes n = n

-- What is made of what the store keeps: a transaction with the changes is committed; or nothing, or one is given up.
abbrev pub PutsFacts : {E : Type 0} → Result (Unit {0}) E → List Change → Option (List (List ℕ)) → (f g : StoreFacts) → Type 0
PutsFacts (Ok u) [] gives f g = g ≡ f
PutsFacts {E} (Ok u) (x ∷ xs) gives f g = HasCommitted {E = E} (Ok u) gives (x ∷ xs) f g
PutsFacts (Err e) changes gives f g = (g ≡ f) ⊎ HasCommitted (Err e) gives changes f g

-- What stands after changes were put through a store, or weren't: of what is seen of its device before and after, and of its map.
pub record PutsOver {E : Type 0} (result : Result (Unit {0}) E) (list : List Change) (gives gave : Option (List (List ℕ))) (old new : StateOf) (before now : Changes) (m next : MapParts) : Type 0 where
  pub content : PutsContent result list (present_content gives old) (present_content gave new)
  pub map : PutsMap result list (present_content gives old) m next
  pub commits : new.commits ≡ commits_after result list old.commits
  pub durable : new.durable ≡ old.durable
  pub facts : PutsFacts result list gives (facts_of old) (facts_of new)
  pub closed : new.is_open ≡ false
  pub same : gave ≡ gives
  pub unchanged : now ≡ before
  pub windows : LeadsTo before (facts_of old) (facts_of new) (AfterPutting result list)

abbrev pub HasPut : {D E : Type 0} → (D → Option (List (List ℕ))) → (D → Changes) → Result (Unit {0}) E → List Change → (old new : Seen D) → (m next : MapParts) → Type 0
HasPut gives changes result list old new m next = PutsOver result list (gives old.device) (gives new.device) old.state new.state (changes old.device) (changes new.device) m next

-- that they lead to no volume is answered only where what the device gives isn't known
abbrev pub IsUnknownWhereBroken : {X : Type 0} → Result X PutFault → Option (List (List ℕ)) → Type 0
IsUnknownWhereBroken (Ok x) gives = ⊤
IsUnknownWhereBroken (Err why) gives = why ≡ Broken → gives ≡ None

-- The device's counts don't fall. A fault of the device comes only where this failed; and where its last moment had not come before, no failure is passed over.
pub record HasPutCauses {D : Type 0} (faults moment : D → ℕ) (result : Result (Unit {0}) PutFault) (old new : Seen D) : Type 0 where
  pub onwards : GoesOnwards faults moment old.device new.device
  pub failed : IfErr result (λ why. why ≡ Fault → HasFailed (faults old.device) (faults new.device) (moment new.device))
  pub counted : moment old.device < last_moment → CountsOnDevice put_cause (faults old.device) (faults new.device) (moment new.device) result
