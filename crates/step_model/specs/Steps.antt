-- One step of a content: what an operation answers, and what it leaves.
use Rattle.std.specs.Prelude.{◌≡◌, ◌⊎◌, ⊤, ℕ, Bool, true, false, List, [], ◌∷◌, Option, Some, None, Result, Ok, Err, IsOkAnd, IsSomeAnd}
use Rattle.record_writer.specs.disk_model.Content.{Content}
use Rattle.plan_model.specs.file_tree.declared.node.Node.{Node}
use Rattle.plan_model.specs.file_tree.declared.node.Why.TheVariants as why
use Rattle.plan_model.specs.record_model.Records.{Record}
use Rattle.plan_model.specs.index_model.Trees.{Tree}
use Rattle.plan_model.specs.index_model.Laws.{HoldsIndex}
use Rattle.plan_model.specs.state_model.declared.geometry.Geometry.{Geometry}
use Rattle.plan_model.specs.state_model.declared.geometry.MapRefusal.{MapRefusal}
use Rattle.plan_model.specs.volume_model.Volumes.{Volume, volume_of, file_in, upper_of}
use Rattle.plan_model.specs.volume_model.Indexes.{index_place, root_value}
use Rattle.plan_model.specs.volume_state.Trees.{tree_of, volume_journal}
use Rattle.plan_model.specs.tree_laws.Parts.{journal_number}
use Rattle.plan_model.specs.plan_owners.States.{Stands}
use Rattle.run_model.specs.tree_model.declared.script.Op.{Op}
use Rattle.run_model.specs.tree_model.declared.script.Op.TheVariants as op
use Rattle.run_model.specs.tree_model.declared.reply.Reply.{Reply}
use Rattle.run_model.specs.tree_model.declared.reply.Reply.TheVariants as reply
use Rattle.run_model.specs.tree_model.Walks.{reached, reached_directory}
use Rattle.run_model.specs.tree_model.Needs.{changes_file}
use Rattle.run_model.specs.tree_model.Refusals.{parent_path}
use Rattle.run_model.specs.tree_model.Effects.{numbers_to_take, least_ref}
use Rattle.run_model.specs.tree_model.Steps.{HasStep, step_refusal, IsDone}
use Rattle.run_model.specs.Runs.{RunStart, IsTurn, next_of}
use Rattle.run_model.specs.declared.turn.Turn.{Turn}
use Rattle.step_model.specs.Plans.{Plan, IsPlan, content_rows}
use Rattle.step_model.specs.Contents.{IsLeft}

-- ---- which answers an operation has

-- the operation is done, refused, answered of a run or given up; or it never has this answer
pub data Answer : Type 0 where
  Done : Answer
  Refused : Answer
  Synced : Answer
  GivenUp : Answer
  Never : Answer

-- what every operation on a path may answer that isn't done
abbrev pub path_answer : Reply → Answer
path_answer reply.BadName = Refused
path_answer (reply.NotFound part) = Refused
path_answer (reply.NotDirectory part) = Refused
path_answer reply.Fault = GivenUp
path_answer reply.Memory = GivenUp
path_answer other = Never

abbrev pub stat_answer : Reply → Answer
stat_answer (reply.Stat number seq kind links size clusters created modified changed read_at) = Done
stat_answer other = path_answer other

abbrev pub list_answer : Reply → Answer
list_answer (reply.Names names) = Done
list_answer other = path_answer other

abbrev pub read_answer : Reply → Answer
read_answer (reply.Bytes bytes) = Done
read_answer reply.IsDirectory = Refused
read_answer reply.System = Refused
read_answer (reply.FixedBy why.List) = Refused
read_answer (reply.FixedBy why.Reparse) = Refused
read_answer (reply.FixedBy why.Encrypted) = Refused
read_answer (reply.FixedBy why.Compressed) = Refused
read_answer other = path_answer other

abbrev pub create_answer : Reply → Answer
create_answer (reply.Created number seq) = Done
create_answer reply.System = Refused
create_answer (reply.FixedBy why.List) = Refused
create_answer (reply.FixedBy why.Reparse) = Refused
create_answer reply.Exists = Refused
create_answer (reply.MftFull records) = Refused
create_answer (reply.NoSpace room needed) = Refused
create_answer (reply.RecordFull used) = Refused
create_answer (reply.IndexDeep height) = Refused
create_answer other = path_answer other

-- what a change of a file's bytes or size may answer that isn't done
abbrev pub change_answer : Reply → Answer
change_answer reply.IsDirectory = Refused
change_answer reply.System = Refused
change_answer (reply.FixedBy why) = Refused
change_answer (reply.TooLong end) = Refused
change_answer (reply.NoSpace room needed) = Refused
change_answer (reply.RecordFull used) = Refused
change_answer other = path_answer other

abbrev pub write_answer : Reply → Answer
write_answer (reply.Wrote count) = Done
write_answer other = change_answer other

abbrev pub truncate_answer : Reply → Answer
truncate_answer (reply.Size size) = Done
truncate_answer other = change_answer other

-- a sync never wants memory
abbrev pub sync_answer : Reply → Answer
sync_answer (reply.Synced turns) = Synced
sync_answer reply.Fault = GivenUp
sync_answer other = Never

-- The answers of each operation. Those that have no step yet never have one.
abbrev pub answer_of : Op → Reply → Answer
answer_of (op.Create path) said = create_answer said
answer_of (op.Mkdir path) said = Never
answer_of (op.Write path offset bytes) said = write_answer said
answer_of (op.Fill path offset count byte) said = write_answer said
answer_of (op.Truncate path size) said = truncate_answer said
answer_of (op.Read path offset count) said = read_answer said
answer_of (op.Stat path) said = stat_answer said
answer_of (op.List path) said = list_answer said
answer_of (op.Link path new) said = Never
answer_of (op.Rename path new) said = Never
answer_of (op.Remove path) said = Never
answer_of op.Sync said = sync_answer said
answer_of op.Index said = Never
answer_of (op.Journal from) said = Never

-- ---- refused

-- The first row that applies: one of the tree, or, where none of those does, one of the content.
abbrev pub IsRefused : Content → Volume → Op → ℕ → Reply → Type 0
IsRefused c v op end said =
    (step_refusal (upper_of c v) (tree_of c v) end [] op ≡ Some said)
    ⊎ ((step_refusal (upper_of c v) (tree_of c v) end [] op ≡ None) × ((p : Plan) × IsPlan c v op end p × (step_refusal (upper_of c v) (tree_of c v) end (content_rows p) op ≡ Some said)))

-- ---- done

-- the directory's index is this tree then
pub record HasIndex (d : Content) (w : Volume) (directory : ℕ) (s : Tree) : Type 0 where
  pub r : Record
  pub file : file_in w directory ≡ Some r
  pub value : List ℕ
  pub root : root_value r ≡ Some value
  pub holds : HoldsIndex d (index_place w.per r) (upper_of d w) value s

-- these files, and that of the change journal
abbrev pub and_journal : Option ℕ → List ℕ → List ℕ
and_journal None files = files
and_journal (Some n) files = n ∷ files

abbrev pub touched_files : Content → Volume → List ℕ → List ℕ
touched_files c v files = and_journal (journal_number (upper_of c v) v) files

-- a file that is written or cut; one that stays leaves the content
abbrev pub LeavesContent : Bool → Content → Volume → ℕ → Node → Plan → Content → Volume → Type 0
LeavesContent true c v clusters node p d w = IsLeft c v clusters (touched_files c v (node.number ∷ [])) p.growths d w
LeavesContent false c v clusters node p d w = d ≡ c

abbrev pub HasChangedContent : Content → Volume → ℕ → List (List ℕ) → Op → Plan → Content → Volume → Type 0
HasChangedContent c v clusters path op p d w = IsOkAnd (reached (upper_of c v) (tree_of c v).nodes (tree_of c v).links path) (λ node. LeavesContent (changes_file op node) c v clusters node p d w)

-- a file that is made, its directory, and the name in the directory's index
abbrev pub HasMadeContent : Content → Volume → ℕ → List (List ℕ) → Plan → Content → Volume → Type 0
HasMadeContent c v clusters path p d w =
    IsOkAnd (reached_directory (upper_of c v) (tree_of c v).nodes (tree_of c v).links (parent_path path)) (λ directory. IsSomeAnd (least_ref (numbers_to_take (tree_of c v))) (λ ref.
    IsLeft c v clusters (touched_files c v (ref.number ∷ directory.number ∷ [])) p.growths d w × IsSomeAnd p.index (λ s. HasIndex d w directory.number s)))

-- what an operation that is done leaves of the content; what only looks leaves all of it
abbrev pub IsContentLeft : Content → Volume → ℕ → Op → Plan → Content → Volume → Type 0
IsContentLeft c v clusters (op.Create path) p d w = HasMadeContent c v clusters path p d w
IsContentLeft c v clusters (op.Write path offset bytes) p d w = HasChangedContent c v clusters path (op.Write path offset bytes) p d w
IsContentLeft c v clusters (op.Fill path offset count byte) p d w = HasChangedContent c v clusters path (op.Fill path offset count byte) p d w
IsContentLeft c v clusters (op.Truncate path size) p d w = HasChangedContent c v clusters path (op.Truncate path size) p d w
IsContentLeft c v clusters other p d w = d ≡ c

-- No row applies. The reply and the tree are those of the operation on the tree, and the content is what its plan says.
pub record IsDoneIn (c : Content) (v : Volume) (g : Geometry) (clusters : ℕ) (op : Op) (end stamp : ℕ) (said : Reply) (d : Content) : Type 0 where
  pub plan : Plan
  pub is_plan : IsPlan c v op end plan
  pub unrefused : step_refusal (upper_of c v) (tree_of c v) end (content_rows plan) op ≡ None
  pub new : Volume
  pub stands : Stands d g clusters new
  pub tree : IsDone (upper_of c v) op end stamp said (tree_of c v) (tree_of d new)
  pub content : IsContentLeft c v clusters op plan d new

-- ---- the step

abbrev pub StepBy : Answer → Type 0 → Type 0 → Type 0 → Type 0
StepBy Done done refused stays = done
StepBy Refused done refused stays = refused × stays
StepBy Synced done refused stays = stays
StepBy GivenUp done refused stays = stays
StepBy Never done refused stays = ⊥

-- The operation has a step on the tree, or is answered of a run.
abbrev pub HasAnswer : Op → Content → Volume → Type 0
HasAnswer op.Sync c v = ⊤
HasAnswer other c v = HasStep other (tree_of c v)

-- A step of a content of eight sectors a cluster, with this operation, time and reply: done by the effects on its tree and by its plan; or
-- refused, answered of a run, or given up, where the content stays.
pub record Step (g : Geometry) (clusters : ℕ) (op : Op) (stamp : ℕ) (said : Reply) (c d : Content) : Type 0 where
  pub old : Volume
  pub stands : Stands c g clusters old
  pub eight : old.per ≡ 8
  pub has : HasAnswer op c old
  pub by : StepBy (answer_of op said) (IsDoneIn c old g clusters op 0 stamp said d) (IsRefused c old op 0 said) (d ≡ c)

-- ---- turns

abbrev pub next_or : Content → Result Volume MapRefusal → ℕ
next_or c (Ok v) = next_of (volume_journal c v)
next_or c (Err refusal) = 0

-- where the journal's next record goes in a content, 0 without a journal
abbrev pub next_in_content : Geometry → ℕ → Content → ℕ
next_in_content g clusters c = next_or c (volume_of c g clusters)

-- a turn of a content
abbrev pub IsContentTurn : Geometry → ℕ → RunStart → List Turn → Turn → Content → Content → Type 0
IsContentTurn g clusters f past t c d = IsTurn (next_in_content g clusters) (Step g clusters) f past t c d
