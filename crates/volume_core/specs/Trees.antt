-- What an operation makes of the tree of a volume.
use Rattle.std.specs.Prelude.{◌≡◌, ◌≢◌, ℕ, ⊤, false, List, Option, Some, None, Result, Ok, Err}
use Rattle.file_tree.specs.declared.tree.Tree.{Tree}
use Rattle.tree_model.specs.declared.script.Op.{Op}
use Rattle.tree_model.specs.declared.reply.Reply.{Reply}
use Rattle.tree_model.specs.Steps.{IsStep}
use Rattle.working_volume.specs.step_model.Steps.{Done, answer_of}
use Rattle.working_volume.specs.step_model.StepLaws.{is_content_row}
use Rattle.working_volume.specs.declared.fault.DoFault.{DoFault}

-- The reply is a step from the one tree to the other, but where a full record refuses the operation, of which a tree doesn't tell; and what isn't done leaves the tree.
pub record StepsTo (upper : List ℕ) (op : Op) (stamp : ℕ) (said : Reply) (t u : Tree) : Type 0 where
  pub step : is_content_row said ≡ false → IsStep upper op stamp said t u
  pub stays : answer_of op said ≢ Done → u ≡ t

-- The tree is known then where it was before. With a reply it is the next one of the operation's step; else it is as before.
abbrev pub StepsTree : List ℕ → Op → ℕ → Result Reply DoFault → (old new : Option Tree) → Type 0
StepsTree upper op stamp (Ok said) (Some t) (Some u) = StepsTo upper op stamp said t u
StepsTree upper op stamp (Err why) (Some t) (Some u) = u ≡ t
StepsTree upper op stamp result (Some t) None = ⊥
StepsTree upper op stamp result None (Some u) = ⊥
StepsTree upper op stamp result None None = ⊤
