-- What the put of a plan's changes leaves of a volume.
use Rattle.std.specs.Prelude.{◌≡◌, ℕ, ◌<◌, true, List, length, Option, None, IfSome, Result, Ok, Err}
use Rattle.sector_device.specs.Moments.{Changes}
use Rattle.block_view.specs.Changes.{content_after}
use Rattle.plans_lead.specs.map_change.Parts.{MapParts}
use Rattle.tree_model.specs.declared.script.Op.{Op}
use Rattle.tree_model.specs.declared.reply.Reply.{Reply}
use Rattle.plans_lead.specs.file_puts.declared.streams.VolumeStreams.{VolumeStreams}
use Rattle.plans_lead.specs.step_model.Steps.{Step}
use Rattle.plans_lead.specs.volume_tree.declared.names.Names.{Names}
use Rattle.plans_lead.specs.volume_tree.Named.{AreNamesOf}
use Rattle.change_plan.specs.declared.plan.ChangePlan.{ChangePlan}
use Rattle.change_plan.specs.States.{is_data_change}
use Rattle.plans_lead.specs.txn_state.States.{facts_of}
use Rattle.plans_lead.specs.txn_core.Seen.{Seen}
use Rattle.plans_lead.specs.txn_core.Views.{present_content}
use Rattle.put_checks.specs.state_store.Volumes.{geometry_of, HoldsState}
use Rattle.working_volume.specs.declared.fault.DoFault.{DoFault}
use Rattle.working_volume.specs.declared.fault.DoFault.TheVariants.{Unknown}
use Rattle.working_volume.specs.Ready.{IsReady, IsTaken}
use Rattle.working_volume.specs.Doing.{PutsAndAnswers, DoesStep, CountsChange}

-- The volume holds a state again. Each operation of which the plan's reply and changes are a step is done, where the volume took the changes by its streams; a state that was ready, and took the changes, leaves one that is. What is held of the names of its files stays so.
pub record PutsPlan {D : Type 0} (gives : D → Option (List (List ℕ))) (count : D → ℕ) (changes : D → Changes) (faults moment : D → ℕ) (result : Result Reply DoFault) (plan : ChangePlan) (old new : Seen D) (m next : MapParts) (table : List ℕ) : Type 0 where
  pub holds : HoldsState (gives new.device) (changes new.device) new.state next table
  pub puts : (s : VolumeStreams) → (0 < length plan.changes.items → IfSome (present_content (gives old.device) old.state) (IsTaken (facts_of old.state) m table s plan.changes.items))
      → PutsAndAnswers table s result (gives old.device) (gives new.device) old.state new.state (changes old.device) (changes new.device) m next
  pub steps : (op : Op) (stamp : ℕ) → is_data_change op ≡ true → IfSome (present_content (gives old.device) old.state) (λ c. Step (geometry_of m) m.volume.clusters op stamp plan.reply c (content_after plan.changes.items c))
      → DoesStep op stamp m result (present_content (gives old.device) old.state) (present_content (gives new.device) new.state)
  pub ready : (s : VolumeStreams) → IfSome (present_content (gives old.device) old.state) (IsReady (facts_of old.state) m table s) → (0 < length plan.changes.items → IfSome (present_content (gives old.device) old.state) (IsTaken (facts_of old.state) m table s plan.changes.items))
      → IfSome (present_content (gives new.device) new.state) (IsReady (facts_of new.state) next table s)
  pub unknown : result ≡ Err Unknown → gives old.device ≡ None
  pub counts : CountsChange faults moment result old.device new.device
  pub sectors : count new.device ≡ count old.device
  pub named : (names : Names) → AreNamesOf names m.volume.files → AreNamesOf names next.volume.files
