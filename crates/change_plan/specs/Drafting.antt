-- The plan of an operation that was found to change a file, by what a draft has put.
use Rattle.std.specs.Prelude.{◌≡◌, ℕ, Bool, true, All, List, [], Option, IfSome, Result, Ok, Err}
use Rattle.disk_model.specs.Content.{Content, HasSizes}
use Rattle.record_model.specs.Records.{Record}
use Rattle.file_tree.specs.declared.node.Node.{Node}
use Rattle.state_model.specs.declared.geometry.Geometry.{Geometry}
use Rattle.volume_model.specs.Volumes.{Volume}
use Rattle.tree_model.specs.declared.script.Op.{Op}
use Rattle.tree_model.specs.declared.reply.Reply.{Reply}
use Rattle.tree_model.specs.declared.reply.Reply.TheVariants as reply
use Rattle.block_view.specs.Changes.{content_after}
use Rattle.change_lookup.specs.declared.found.Found.{Found}
use Rattle.found_files.specs.volume_map.declared.map.VolumeMap.{VolumeMap}
use Rattle.found_files.specs.volume_map.Maps.{IsMapOf, volume_in}
use Rattle.plan_draft.specs.declared.touched.Touched.{Touched}
use Rattle.plan_draft.specs.Drafts.{drafted}
use Rattle.plan_draft.specs.Touching.{keys_of, rises, IsWhole, IsOldOf}
use Rattle.plan_draft.specs.Finishing.{changes_of}
use Rattle.found_files.specs.file_puts.declared.streams.VolumeStreams.{VolumeStreams}
use Rattle.found_files.specs.file_puts.Written.{AreStreamsOf}
use Rattle.found_files.specs.file_writes.declared.fault.WriteFault.{WriteFault}
use Rattle.found_files.specs.file_writes.declared.fault.WriteFault.TheVariants as write
use Rattle.found_files.specs.file_changes.Calls.{IsAsked}
use Rattle.found_files.specs.change_steps.Changes.{change_reply}
use Rattle.found_files.specs.change_steps.Found.{HasChange, Finds}
use Rattle.change_plan.specs.declared.plan.ChangePlan.{ChangePlan}
use Rattle.change_plan.specs.declared.fault.PlanFault.{PlanFault}
use Rattle.change_plan.specs.declared.fault.PlanFault.TheVariants.{Fault, Memory, Unknown}
use Rattle.change_plan.specs.States.{HasFewClusters}
use Rattle.change_plan.specs.Plans.{AreChanges, Plans, IsKnown}

-- ---- a draft that is finished

-- the draft's blocks rise, with whole bodies, of which the old ones are those of the content
pub record IsDraftOver (content : Option Content) (touched : List Touched) : Type 0 where
  pub in_order : rises 0 (keys_of touched) ≡ true
  pub whole : All IsWhole touched
  pub olds : IfSome content (λ c. All (IsOldOf c) touched)

-- The operation is done, by the changes of the draft.
pub record IsFinished (content : Option Content) (op : Op) (touched : List Touched) (plan : ChangePlan) : Type 0 where
  pub reply_is : plan.reply ≡ change_reply op
  pub over : IsDraftOver content touched
  pub are : plan.changes.items ≡ changes_of touched
  pub changes_are : AreChanges content plan.changes.items
  pub after : IfSome content (λ c. content_after plan.changes.items c ≡ drafted touched c)

-- This is replied, and nothing is changed.
pub record IsAnswer (said : Reply) (plan : ChangePlan) : Type 0 where
  pub reply_is : plan.reply ≡ said
  pub none : plan.changes.items ≡ []

abbrev pub EndsDone : Option Content → Op → List Touched → Result ChangePlan PlanFault → Type 0
EndsDone content op touched (Ok plan) = IsFinished content op touched plan
EndsDone content op touched (Err e) = e ≡ Memory

abbrev pub Answers : Reply → Result ChangePlan PlanFault → Type 0
Answers said (Ok plan) = IsAnswer said plan
Answers said (Err e) = ⊥

-- what comes of a draft's write of a file
abbrev pub Ends : Option Content → Op → List Touched → Result (Unit {0}) WriteFault → Result ChangePlan PlanFault → Type 0
Ends content op touched (Ok u) result = EndsDone content op touched result
Ends content op touched (Err (write.Full used)) result = Answers (reply.RecordFull used) result
Ends content op touched (Err (write.Short room)) result = result ≡ Err Unknown
Ends content op touched (Err write.Fault) result = result ≡ Err Fault
Ends content op touched (Err write.Memory) result = result ≡ Err Memory

-- ---- from a state

-- it is a plan from each state in which the operation is asked so, of a file with this record
abbrev pub PlansAsked : VolumeStreams → Op → Node → ℕ → Record → List Bool → Result ChangePlan PlanFault → Content → Type 0
PlansAsked s op node stamp r bits result c = (g : Geometry) (clusters : ℕ) (v : Volume) (a : Node) → IsAsked c g clusters v s op node a r bits → Plans result c g clusters v s op stamp

-- the same of the record that the state has
abbrev pub PlansFound : VolumeStreams → Op → Node → ℕ → List Bool → Result ChangePlan PlanFault → Content → Type 0
PlansFound s op node stamp bits result c = (r : Record) → PlansAsked s op node stamp r bits result c

-- from such a state there is one, where the file can be mapped and its record has a spelling but for its room
abbrev pub KnowsAsked : VolumeStreams → Op → Node → Record → List Bool → Result ChangePlan PlanFault → Content → Type 0
KnowsAsked s op node r bits result c = (g : Geometry) (clusters : ℕ) (v : Volume) (a : Node) → IsAsked c g clusters v s op node a r bits → HasFewClusters clusters → IsKnown result

abbrev pub KnowsFound : VolumeStreams → Op → Node → List Bool → Result ChangePlan PlanFault → Content → Type 0
KnowsFound s op node bits result c = (r : Record) → KnowsAsked s op node r bits result c

-- ---- by what was found

-- it is a plan from each state that this is the map of, in which this is found for the operation
abbrev pub PlansBy : VolumeMap → VolumeStreams → Op → Found → ℕ → Result ChangePlan PlanFault → Content → Type 0
PlansBy m s op found stamp result c = (g : Geometry) (clusters : ℕ) → IsMapOf c m → HasSizes c → HasChange c g clusters (volume_in m) op → Finds c (volume_in m) op found → AreStreamsOf (volume_in m) s → Plans result c g clusters (volume_in m) s op stamp

abbrev pub KnowsBy : VolumeMap → VolumeStreams → Op → Found → Result ChangePlan PlanFault → Content → Type 0
KnowsBy m s op found result c =
    (g : Geometry) (clusters : ℕ) → IsMapOf c m → HasSizes c → HasChange c g clusters (volume_in m) op → Finds c (volume_in m) op found → AreStreamsOf (volume_in m) s → HasFewClusters clusters → IsKnown result
