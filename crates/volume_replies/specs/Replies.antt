-- What a volume replies to an operation, and what it leaves.
use Rattle.std.specs.Prelude.{◌≡◌, ◌⊎◌, ℕ, ◌+◌, ◌≤◌, ⊤, Bool, true, false, List, Option, None, Result, Ok, Err}
use Rattle.disk_model.specs.Content.{Content}
use Rattle.sector_device.specs.Moments.{Changes}
use Rattle.tree_model.specs.declared.script.Op.{Op}
use Rattle.tree_model.specs.declared.script.Op.TheVariants as op
use Rattle.tree_model.specs.declared.reply.Reply.{Reply}
use Rattle.tree_model.specs.declared.reply.Reply.TheVariants.{Synced, Memory, Fault}
use Rattle.log_area.specs.Areas.{ring_size}
use Rattle.txn_state.specs.States.{facts_of}
use Rattle.volume_sync.specs.txn_model.Values.{StoreFacts}
use Rattle.volume_sync.specs.txn_model.Told.{pages_end}
use Rattle.volume_sync.specs.txn_laws.Windows.{lap_behind}
use Rattle.volume_sync.specs.volume_core.change_plan.States.{is_data_change}
use Rattle.volume_sync.specs.volume_core.txn_core.Views.{present_content}
use Rattle.volume_sync.specs.volume_core.working_volume.map_change.Parts.{MapParts}
use Rattle.volume_sync.specs.volume_core.working_volume.step_model.StepLaws.{is_content_row}
use Rattle.volume_sync.specs.volume_core.working_volume.declared.fault.DoFault.{DoFault}
use Rattle.volume_sync.specs.volume_core.working_volume.declared.fault.DoFault.TheVariants.{NeedsRoom, Unknown}
use Rattle.volume_sync.specs.volume_core.working_volume.Doing.{DoesStep, CountsChange}
use Rattle.volume_sync.specs.volume_core.Volumes.{SeenVolume, volume_tree}
use Rattle.volume_sync.specs.volume_core.Calls.{GoesOn}
use Rattle.volume_sync.specs.volume_core.Trees.{StepsTree}
use Rattle.volume_sync.specs.Runs.{RunsOn}
use Rattle.volume_sync.specs.Syncs.{LeavesNewest}

-- So many pages of the log more were begun, at most; its ring is as long, and its first page is of the same lap.
pub record BeginsAtMost (most : ℕ) (f g : StoreFacts) : Type 0 where
  pub pages : g.log.pages ≡ f.log.pages
  pub lap : g.log.lap ≡ f.log.lap
  pub few : pages_end g ≤ pages_end f + most

-- Where a full record refuses an operation that writes, fills or cuts a file, of which a tree doesn't tell, the content does: it is that of a step.
abbrev pub TellsRow : Op → ℕ → MapParts → Result Reply DoFault → (old new : Option Content) → Type 0
TellsRow op stamp m (Ok said) old new = is_data_change op ≡ true → is_content_row said ≡ true → DoesStep op stamp m (Ok said) old new
TellsRow op stamp m (Err why) old new = ⊤

-- An operation was tried on a volume, behind steps of its store or without any. The tree is the one to which this answer is a step; the trees that a crash may bring back go on from those behind the
-- steps; the log lies where it did, its laps don't fall, and no more pages of it are begun than its ring has.
pub record RepliesOn {D : Type 0} (gives : D → Option (List (List ℕ))) (count moment : D → ℕ) (changes : D → Changes) (op : Op) (stamp : ℕ) (result : Result Reply DoFault) (old new : SeenVolume D) : Type 0 where
  pub mid : SeenVolume D
  pub runs : RunsOn gives count moment changes old mid
  pub goes : GoesOn gives count changes mid new
  pub tree : StepsTree old.table op stamp result (volume_tree gives old) (volume_tree gives new)
  pub row : TellsRow op stamp mid.map result (present_content (gives mid.store.device) mid.store.state) (present_content (gives new.store.device) new.store.state)
  pub table : new.table ≡ old.table
  pub streams : new.streams ≡ old.streams
  pub place : new.store.state.place ≡ mid.store.state.place
  pub durable : new.store.state.durable ≡ mid.store.state.durable
  pub sectors : count new.store.device ≡ count mid.store.device
  pub later : moment mid.store.device ≤ moment new.store.device
  pub laps : lap_behind (facts_of mid.store.state) ≤ lap_behind (facts_of new.store.state)
  pub begins : BeginsAtMost (ring_size mid.store.state.log) (facts_of mid.store.state) (facts_of new.store.state)

-- The same, with what the device counted. Where it wants room, nothing but steps of the store was done; and what was read is part of no state only where no tree was known.
pub record IsTried {D : Type 0} (gives : D → Option (List (List ℕ))) (count moment faults : D → ℕ) (changes : D → Changes) (op : Op) (stamp : ℕ) (result : Result Reply DoFault) (old new : SeenVolume D) : Type 0 where
  pub replies : RepliesOn gives count moment changes op stamp result old new
  pub short : (pages room : ℕ) → result ≡ Err (NeedsRoom pages room) → RunsOn gives count moment changes old new
  pub unknown : result ≡ Err Unknown → volume_tree gives old ≡ None
  pub counts : CountsChange faults moment result old.store.device new.store.device

-- What a try has come to, where it is told whether as many pages of the log are used as before: one that wanted room and yet used some wants memory.
abbrev pub settled : Bool → Result Reply DoFault → Result Reply DoFault
settled false (Err (NeedsRoom pages room)) = Ok Memory
settled idle result = result

-- the reply of what was tried last: want of room that can't be made is want of memory
abbrev pub reply_of : Result Reply DoFault → Reply
reply_of (Ok said) = said
reply_of (Err (NeedsRoom pages room)) = Memory
reply_of (Err Unknown) = Fault

-- A sync, which says that so many turns are durable, or that the device failed: steps of the store lead on; and where it says so, each operation is durable, and whatever a crash leaves mounts as the
-- newest tree.
pub record SyncsOn {D : Type 0} (gives : D → Option (List (List ℕ))) (count moment : D → ℕ) (changes : D → Changes) (turns : ℕ) (said : Reply) (old new : SeenVolume D) : Type 0 where
  pub runs : RunsOn gives count moment changes old new
  pub reply : (said ≡ Synced turns) ⊎ (said ≡ Fault)
  pub durable : said ≡ Synced turns → new.store.state.durable ≡ new.store.state.commits
  pub newest : said ≡ Synced turns → LeavesNewest gives count changes new

-- the reply to a sync, or to another operation at this time
abbrev pub Answers : {D : Type 0} → (D → Option (List (List ℕ))) → (count moment : D → ℕ) → (D → Changes) → Op → (stamp turns : ℕ) → Reply → (old new : SeenVolume D) → Type 0
Answers gives count moment changes op.Sync stamp turns said old new = SyncsOn gives count moment changes turns said old new
Answers gives count moment changes o stamp turns said old new = RepliesOn gives count moment changes o stamp (Ok said) old new
