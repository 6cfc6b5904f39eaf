-- What a step of a content keeps, what it shares with a step of the tree, and its turns.
use Rattle.std.specs.Prelude.{◌≡◌, ◌≢◌, ℕ, ◌+◌, ◌<◌, ◌≤◌, Bool, true, false, List, [], ◌∷◌, ◌++◌, Some, None}
use Rattle.record_writer.specs.disk_model.Content.{Content}
use Rattle.plan_model.specs.file_tree.declared.tree.Tree.{Tree}
use Rattle.plan_model.specs.state_model.declared.geometry.Geometry.{Geometry}
use Rattle.plan_model.specs.volume_model.Volumes.{Volume, upper_of}
use Rattle.plan_model.specs.volume_state.Trees.{tree_of}
use Rattle.plan_model.specs.plan_owners.States.{Stands}
use Rattle.run_model.specs.tree_model.declared.script.Op.{Op}
use Rattle.run_model.specs.tree_model.declared.script.Op.TheVariants.{Sync}
use Rattle.run_model.specs.tree_model.declared.reply.Reply.{Reply}
use Rattle.run_model.specs.tree_model.declared.reply.Reply.TheVariants as reply
use Rattle.run_model.specs.tree_model.Steps.{HasStep, step_refusal, IsDone, IsStep}
use Rattle.run_model.specs.Runs.{RunStart, TakesStep, IsTreeTurn, Segment, own, serial_of_last}
use Rattle.run_model.specs.declared.turn.Turn.{Turn}
use Rattle.step_model.specs.Plans.{Plan, IsPlan, content_rows}
use Rattle.step_model.specs.Steps.{Done, Refused, Never, answer_of, Step, IsContentTurn}

-- a row that only a content shows
abbrev pub is_content_row : Reply → Bool
is_content_row (reply.RecordFull used) = true
is_content_row (reply.IndexDeep height) = true
is_content_row other = false

-- A step leads from a state to a state. Only what is done changes the content; what is refused, answered of a run or given up leaves it, and
-- so the tree. An operation never has an answer but those of its own.
pub record StepsStay : Type 0 where
  pub state : (g : Geometry) (clusters : ℕ) (op : Op) (stamp : ℕ) (said : Reply) (c d : Content) → Step g clusters op stamp said c d → (w : Volume) × Stands d g clusters w
  pub content : (g : Geometry) (clusters : ℕ) (op : Op) (stamp : ℕ) (said : Reply) (c d : Content) → Step g clusters op stamp said c d → answer_of op said ≢ Done → d ≡ c
  pub tree : (g : Geometry) (clusters : ℕ) (op : Op) (stamp : ℕ) (said : Reply) (c d : Content) (v w : Volume) → Step g clusters op stamp said c d → answer_of op said ≢ Done → Stands c g clusters v → Stands d g clusters w → tree_of d w ≡ tree_of c v
  pub never : (g : Geometry) (clusters : ℕ) (op : Op) (stamp : ℕ) (said : Reply) (c d : Content) → Step g clusters op stamp said c d → answer_of op said ≢ Never

-- Each answer of the definitions is one that the table of answers has: what refuses an operation, on the tree or on the content, and what is
-- said where it is done.
pub record AnswersListed : Type 0 where
  pub refused : (upper : List ℕ) (t : Tree) (end : ℕ) (op : Op) (row : Reply) → HasStep op t → step_refusal upper t end [] op ≡ Some row → answer_of op row ≡ Refused
  pub content : (c : Content) (v : Volume) (op : Op) (end : ℕ) (p : Plan) (row : Reply) → HasStep op (tree_of c v) → IsPlan c v op end p → step_refusal (upper_of c v) (tree_of c v) end [] op ≡ None → step_refusal (upper_of c v) (tree_of c v) end (content_rows p) op ≡ Some row → answer_of op row ≡ Refused
  pub done : (upper : List ℕ) (op : Op) (end stamp : ℕ) (said : Reply) (t u : Tree) → HasStep op t → IsDone upper op end stamp said t u → answer_of op said ≡ Done

-- The trees of a step are a step of the tree's own relation, but where a row of the content refuses; there no row of the tree applies.
pub record StepsOfTrees : Type 0 where
  pub step : (g : Geometry) (clusters : ℕ) (op : Op) (stamp : ℕ) (said : Reply) (c d : Content) (v w : Volume) → Step g clusters op stamp said c d → Stands c g clusters v → Stands d g clusters w → HasStep op (tree_of c v) → is_content_row said ≡ false
      → IsStep (upper_of c v) op stamp said (tree_of c v) (tree_of d w)
  pub rows : (g : Geometry) (clusters : ℕ) (op : Op) (stamp : ℕ) (said : Reply) (c d : Content) (v : Volume) → Step g clusters op stamp said c d → Stands c g clusters v → HasStep op (tree_of c v) → is_content_row said ≡ true → step_refusal (upper_of c v) (tree_of c v) 0 [] op ≡ None

-- A step at the time of its serial is what a turn takes; a sync tells of turns from its client's last one on, and before its own. A turn of
-- contents is one of their trees, but where a row of the content refuses. Turns behind turns are a run.
pub record TurnsOfContents : Type 0 where
  pub takes : (g : Geometry) (clusters base : ℕ) (past : List Turn) (turn : Turn) (op : Op) (said : Reply) (c d : Content) → op ≢ Sync → Step g clusters op (base + turn.serial) said c d → TakesStep (Step g clusters) base past turn op said c d
  pub syncs : (g : Geometry) (clusters base : ℕ) (past : List Turn) (turn : Turn) (turns : ℕ) (c d : Content) → serial_of_last 0 (own past turn.client) ≤ turns → turns < turn.serial → Step g clusters Sync (base + turn.serial) (reply.Synced turns) c d
      → TakesStep (Step g clusters) base past turn Sync (reply.Synced turns) c d
  pub trees : (g : Geometry) (clusters : ℕ) (f : RunStart) (past : List Turn) (turn : Turn) (c d : Content) (v w : Volume) → IsContentTurn g clusters f past turn c d → Stands c g clusters v → Stands d g clusters w → upper_of c v ≡ f.upper → is_content_row turn.reply ≡ false
      → IsTreeTurn f past turn (tree_of c v) (tree_of d w)
  pub goes_on : (g : Geometry) (clusters : ℕ) (f : RunStart) (past turns : List Turn) (turn : Turn) (x y z : Content) → Segment (IsContentTurn g clusters f) past turns x y → IsContentTurn g clusters f (past ++ turns) turn y z → Segment (IsContentTurn g clusters f) past (turns ++ turn ∷ []) x z
  pub join : (g : Geometry) (clusters : ℕ) (f : RunStart) (past turns more : List Turn) (x y z : Content) → Segment (IsContentTurn g clusters f) past turns x y → Segment (IsContentTurn g clusters f) (past ++ turns) more y z → Segment (IsContentTurn g clusters f) past (turns ++ more) x z
