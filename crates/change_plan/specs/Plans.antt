-- What a plan of an operation that writes or cuts a file has to show.
use Rattle.std.specs.Prelude.{◌≡◌, ⊤, ℕ, ◌<◌, true, false, All, List, [], length, Option, IfSome, Result, Ok, Err}
use Rattle.disk_model.specs.declared.block.Change.{Change}
use Rattle.disk_model.specs.Content.{Content}
use Rattle.record_model.specs.Records.{Record}
use Rattle.file_tree.specs.declared.node.Node.{Node}
use Rattle.state_model.specs.declared.geometry.Geometry.{Geometry}
use Rattle.volume_model.specs.Volumes.{Volume}
use Rattle.tree_model.specs.declared.script.Op.{Op}
use Rattle.tree_model.specs.declared.reply.Reply.TheVariants as reply
use Rattle.tree_model.specs.Steps.{is_given_up}
use Rattle.block_view.specs.Changes.{Fits, content_after}
use Rattle.plan_draft.specs.declared.touched.Touched.{Touched}
use Rattle.plan_draft.specs.Touching.{keys_of, rises, IsWhole, IsOldOf}
use Rattle.plan_draft.specs.Finishing.{changes_of, change_keys, WasOld}
use Rattle.found_files.specs.made_data.Made.{record_with_data}
use Rattle.found_files.specs.file_puts.declared.streams.VolumeStreams.{VolumeStreams}
use Rattle.found_files.specs.file_changes.Written.{IsWritten}
use Rattle.found_files.specs.step_model.Steps.{Answer, Done, answer_of, Step}
use Rattle.change_plan.specs.declared.plan.ChangePlan.{ChangePlan}
use Rattle.change_plan.specs.declared.fault.PlanFault.{PlanFault}
use Rattle.change_plan.specs.declared.fault.PlanFault.TheVariants.{Fault, Memory, Unknown}
use Rattle.change_plan.specs.States.{IsPlannable, HasFewClusters}

-- ---- the changes

-- Each change lies inside its block's body and has as many new bytes as old ones, which are those of the content; the blocks rise.
pub record AreChanges (content : Option Content) (changes : List Change) : Type 0 where
  pub fit : All Fits changes
  pub in_order : rises 0 (change_keys changes) ≡ true
  pub olds : IfSome content (λ c. All (WasOld c) changes)

-- A plan's changes are such, there are none where the operation isn't done, and the reply is none of one that was given up.
pub record IsSound (content : Option Content) (op : Op) (plan : ChangePlan) : Type 0 where
  pub changes_are : AreChanges content plan.changes.items
  pub stays : (answer_of op plan.reply ≡ Done → ⊥) → plan.changes.items ≡ []
  pub kept_on : is_given_up plan.reply ≡ false

-- These are the changes of a draft over the content, which has written or cut a file as the operation says, by its record or by that with
-- data which is empty: its bodies lead to a state as those of a plan do, with the tree and the content that a step has.
pub record ComeOfDraft (c : Content) (g : Geometry) (clusters : ℕ) (v : Volume) (s : VolumeStreams) (op : Op) (stamp : ℕ) (changes : List Change) : Type 0 where
  pub number : ℕ
  pub r : Record
  pub a : Node
  pub touched : List Touched
  pub in_order : rises 0 (keys_of touched) ≡ true
  pub whole : All IsWhole touched
  pub olds : All (IsOldOf c) touched
  pub are : changes ≡ changes_of touched
  pub written : IsWritten c g clusters v s op number stamp a r (record_with_data r) touched

-- ---- the plan

-- The content after the changes is that of the operation's step with this reply. Where there are changes, they come of a draft.
pub record IsPlan (c : Content) (g : Geometry) (clusters : ℕ) (v : Volume) (s : VolumeStreams) (op : Op) (stamp : ℕ) (plan : ChangePlan) : Type 0 where
  pub step : Step g clusters op stamp plan.reply c (content_after plan.changes.items c)
  pub draft : 0 < length plan.changes.items → ComeOfDraft c g clusters v s op stamp plan.changes.items

-- A plan is one. A failure and want of memory are steps that leave the content.
abbrev pub Plans : Result ChangePlan PlanFault → Content → Geometry → ℕ → Volume → VolumeStreams → Op → ℕ → Type 0
Plans (Ok plan) c g clusters v s op stamp = IsPlan c g clusters v s op stamp plan
Plans (Err Fault) c g clusters v s op stamp = Step g clusters op stamp reply.Fault c c
Plans (Err Memory) c g clusters v s op stamp = Step g clusters op stamp reply.Memory c c
Plans (Err Unknown) c g clusters v s op stamp = ⊤

-- so it is from a content that is a state of the volume
abbrev pub PlansFrom : List ℕ → Volume → VolumeStreams → Op → ℕ → Result ChangePlan PlanFault → Content → Type 0
PlansFrom upper v s op stamp result c = (g : Geometry) (clusters : ℕ) → IsPlannable c g clusters v upper s → Plans result c g clusters v s op stamp

-- there is a plan, a failure or want of memory
abbrev pub IsKnown : Result ChangePlan PlanFault → Type 0
IsKnown (Ok plan) = ⊤
IsKnown (Err Fault) = ⊤
IsKnown (Err Memory) = ⊤
IsKnown (Err Unknown) = ⊥

-- so it is from a state whose files can be mapped
abbrev pub KnowsFrom : List ℕ → Volume → VolumeStreams → Result ChangePlan PlanFault → Content → Type 0
KnowsFrom upper v s result c = (g : Geometry) (clusters : ℕ) → IsPlannable c g clusters v upper s → HasFewClusters clusters → IsKnown result
