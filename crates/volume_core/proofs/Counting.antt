-- What a look over a view of a store says of its device.
use Rattle.std.proofs.Common.{◌≡◌, ℕ, ◌≤◌, false, List, Option, ap, subst, arith}
use Rattle.std.specs.Prelude.{IfSome}
use Rattle.host_base.proofs.Known.{both}
use Rattle.sector_device.specs.Moments.{Changes}
use Rattle.file_tree.specs.declared.tree.Tree.{Tree}
use Rattle.tree_model.specs.declared.script.Op.{Op}
use Rattle.tree_model.specs.declared.reply.Reply.{Reply}
use Rattle.tree_model.specs.Steps.{is_given_up, Replies, IsStep}
use Rattle.tree_lookup.specs.Answered.{CountsReply}
use Rattle.device_view.specs.Devices.{BorrowedDevice, failures}
use Rattle.working_volume.proofs.volume_mount.Replying.{reply_failed, reply_counts}
use Rattle.working_volume.specs.txn_core.Seen.{Seen}
use Rattle.working_volume.specs.txn_core.Views.{BorrowedStore, borrowed_store}
use Rattle.volume_core.specs.Looks.{RepliesOf, CountsLook}

of_device : BorrowedStore → BorrowedDevice
of_device b = record { reference = b.reference; gives = b.gives; sectors = b.sectors; changes = b.changes; faults_before = b.faults_before; moment_before = b.moment_before }

pub look_counts : {D : Type 0} (known : Option Tree) (reply : Reply) (gives : D → Option (List (List ℕ))) (count : D → ℕ) (changes : D → Changes) (faults moment : D → ℕ) (old last x : Seen D) {began : ℕ} (given reference before first : ℕ)
    → borrowed_store gives count changes reference last before began ≡ borrowed_store gives count changes given old (faults old.device) (moment old.device) → first ≡ failures (faults old.device) (moment old.device) → before ≤ faults last.device
    → CountsReply known first (failures (faults last.device) (moment last.device)) reply → (given ≡ reference → x ≡ last) → CountsLook faults moment known reply old x
unfolding of_device
look_counts {D} known reply gives count changes faults moment old last x given reference before first kept is more counted ended = record {
  fault = λ failed.
      reply_failed known reply gives count changes faults moment old.device last.device x.device given reference before first failed (ap of_device kept) (omega (arith, is)) counted (λ same. ap (λ (s : Seen D). s.device) (ended same));
  counted = λ early.
      reply_counts known reply gives count changes faults moment old.device last.device x.device given reference before first (ap of_device kept) is more counted (λ same. ap (λ (s : Seen D). s.device) (ended same)) early;
}

-- a reply is what the tree says, where this is known
pub replies : (upper : List ℕ) (op : Op) (reply : Reply) (known o : Option Tree) → known ≡ o → IfSome known (λ t. is_given_up reply ≡ false → Replies upper t.nodes t.links op reply) → IfSome known (λ t. (stamp : ℕ) → IsStep upper op stamp reply t t) → IfSome o (RepliesOf upper op reply)
replies upper op reply known o same value step =
    subst (λ (x : Option Tree). IfSome x (RepliesOf upper op reply)) same
    (both known (λ t. is_given_up reply ≡ false → Replies upper t.nodes t.links op reply) (λ t. (stamp : ℕ) → IsStep upper op stamp reply t t) (RepliesOf upper op reply) (λ t v s. record { value = v; step = s }) value step)
