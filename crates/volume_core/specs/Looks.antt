-- What a look at a volume leaves, and what it answers.
use Rattle.std.specs.Prelude.{◌≡◌, ℕ, ◌<◌, false, List, Option, IfSome}
use Rattle.host_base.specs.Causes.{HasFailed, last_moment}
use Rattle.file_tree.specs.declared.tree.Tree.{Tree}
use Rattle.tree_model.specs.declared.script.Op.{Op}
use Rattle.tree_model.specs.declared.reply.Reply.{Reply}
use Rattle.tree_model.specs.declared.reply.Reply.TheVariants.{Fault}
use Rattle.tree_model.specs.Steps.{is_given_up, Replies, IsStep}
use Rattle.working_volume.specs.volume_mount.Answers.{CountsReplyOnDevice}
use Rattle.working_volume.specs.txn_core.Seen.{Seen}

-- The reply is what the tree says, and a step that leaves it.
pub record RepliesOf (upper : List ℕ) (op : Op) (reply : Reply) (t : Tree) : Type 0 where
  pub value : is_given_up reply ≡ false → Replies upper t.nodes t.links op reply
  pub step : (stamp : ℕ) → IsStep upper op stamp reply t t

-- A reply `fault` says that the device failed in this look; and no other reply passes over a failure, where the device's last moment had not come before.
pub record CountsLook {D : Type 0} (faults moment : D → ℕ) (known : Option Tree) (reply : Reply) (old new : Seen D) : Type 0 where
  pub fault : reply ≡ Fault → IfSome known (λ t. HasFailed (faults old.device) (faults new.device) (moment new.device))
  pub counted : moment old.device < last_moment → CountsReplyOnDevice known (faults old.device) (faults new.device) (moment new.device) reply
