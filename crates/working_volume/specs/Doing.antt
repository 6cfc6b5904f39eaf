-- What an operation that is done on a volume answers, and what stands then.
use Rattle.std.specs.Prelude.{◌≡◌, ◌≢◌, ℕ, ◌<◌, ⊤, All, List, [], ◌∷◌, length, Option, Some, None, IfSome, Result, Ok, Err}
use Rattle.host_base.specs.Answers.{GivesOrFails}
use Rattle.host_base.specs.Causes.{HasFailed, last_moment}
use Rattle.disk_model.specs.declared.block.Change.{Change}
use Rattle.disk_model.specs.Content.{Content}
use Rattle.sector_device.specs.Moments.{Changes}
use Rattle.plans_lead.specs.map_change.Parts.{MapParts}
use Rattle.tree_model.specs.declared.script.Op.{Op}
use Rattle.plans_lead.specs.file_puts.declared.streams.VolumeStreams.{VolumeStreams}
use Rattle.plans_lead.specs.Leading.{LeadsAsAsked}
use Rattle.tree_model.specs.declared.reply.Reply.{Reply}
use Rattle.tree_model.specs.declared.reply.Reply.TheVariants as reply
use Rattle.plans_lead.specs.step_model.Steps.{Step}
use Rattle.plans_lead.specs.txn_state.States.{StateOf, facts_of}
use Rattle.plans_lead.specs.txn_core.Views.{present_content}
use Rattle.put_checks.specs.state_store.turn_laws.device_view.Devices.{GoesOnwards}
use Rattle.put_checks.specs.state_store.declared.fault.PutFault.{PutFault}
use Rattle.put_checks.specs.state_store.declared.fault.PutFault.TheVariants as faults
use Rattle.put_checks.specs.state_store.Volumes.{geometry_of}
use Rattle.put_checks.specs.state_store.Changes.{MayLog, AreApart, LeadsOn}
use Rattle.put_checks.specs.state_store.Puts.{PutsOver}
use Rattle.put_checks.specs.state_store.Rooms.{room_in, room_cause}
use Rattle.working_volume.specs.declared.fault.DoFault.{DoFault}
use Rattle.working_volume.specs.declared.fault.DoFault.TheVariants.{NeedsRoom, Unknown}

-- ---- the answer

-- What is answered where the changes of an operation with this reply were put, or weren't: a failure and want of memory are replies.
abbrev pub put_answer : Reply → Result (Unit {0}) PutFault → Result Reply DoFault
put_answer said (Ok u) = Ok said
put_answer said (Err (faults.NeedsRoom pages room)) = Err (NeedsRoom pages room)
put_answer said (Err faults.Fault) = Ok reply.Fault
put_answer said (Err faults.Memory) = Ok reply.Memory
put_answer said (Err faults.Broken) = Err Unknown

-- Where changes were to be put, the answer is that; where there were none, nothing wanted room.
abbrev pub IsAnswered : Result Reply DoFault → List Change → Result (Unit {0}) PutFault → Type 0
IsAnswered result (x ∷ xs) put = (said : Reply) × (result ≡ put_answer said put)
IsAnswered (Ok said) [] put = put ≡ Ok tt
IsAnswered (Err (NeedsRoom pages room)) [] put = ⊥
IsAnswered (Err Unknown) [] put = put ≡ Ok tt

-- ---- the changes

-- A volume may be asked to put these changes: its store may log each, no two are of one block or of rivals, and they lead on from what is known, as those of a volume with these streams do.
pub record ArePutAsAsked (state : StateOf) (m : MapParts) (table : List ℕ) (s : VolumeStreams) (known : Option Content) (changes : List Change) : Type 0 where
  pub each : All (MayLog (facts_of state)) changes
  pub apart : AreApart changes
  pub leads : IfSome known (LeadsOn m table changes)
  pub taken : IfSome known (λ c. LeadsAsAsked m table c s changes)

-- Some changes, or none, were put as a volume may be asked, or weren't; how, is the answer. Some wanted room exactly where the log has none for them, unless memory was wanted or the device failed.
pub record PutsAndAnswers (table : List ℕ) (s : VolumeStreams) (result : Result Reply DoFault) (gives gave : Option (List (List ℕ))) (old new : StateOf) (before now : Changes) (m next : MapParts) : Type 0 where
  pub list : List Change
  pub put : Result (Unit {0}) PutFault
  pub over : PutsOver put list gives gave old new before now m next
  pub asked : 0 < length list → ArePutAsAsked old m table s (present_content gives old) list
  pub room : 0 < length list → GivesOrFails (λ u. u) room_cause put (room_in (facts_of old) list)
  pub answered : IsAnswered result list put

-- ---- the step

-- The content is known then where it was before. With a reply it is the next one of the operation's step; else it is as before.
abbrev pub DoesStep : Op → ℕ → MapParts → Result Reply DoFault → (old new : Option Content) → Type 0
DoesStep op stamp m (Ok said) (Some c) (Some d) = Step (geometry_of m) m.volume.clusters op stamp said c d
DoesStep op stamp m (Err why) (Some c) (Some d) = d ≡ c
DoesStep op stamp m result (Some c) None = ⊥
DoesStep op stamp m result None (Some d) = ⊥
DoesStep op stamp m result None None = ⊤

-- ---- failures

-- What the device of a volume counts in an operation: its faults and its moment don't fall; `fault` is replied only where it failed; and no other answer passes over a failure, where the device's last
-- moment hasn't come by then.
pub record CountsChange {D : Type 0} (faults moment : D → ℕ) (result : Result Reply DoFault) (old new : D) : Type 0 where
  pub onwards : GoesOnwards faults moment old new
  pub fault : result ≡ Ok reply.Fault → HasFailed (faults old) (faults new) (moment new)
  pub counted : moment new < last_moment → result ≢ Ok reply.Fault → faults new ≡ faults old

-- ---- the whole

-- The operation is done: by changes that were put, or weren't, the content and its map are those that its step leaves.
pub record Does (op : Op) (stamp : ℕ) (table : List ℕ) (s : VolumeStreams) (result : Result Reply DoFault) (gives gave : Option (List (List ℕ))) (old new : StateOf) (before now : Changes) (m next : MapParts) : Type 0 where
  pub puts : PutsAndAnswers table s result gives gave old new before now m next
  pub step : DoesStep op stamp m result (present_content gives old) (present_content gave new)
