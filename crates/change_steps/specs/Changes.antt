-- From what an operation comes to, and from what it has written, to the step of a content.
use Rattle.std.specs.Prelude.{◌≡◌, ℕ, true, false, List, [], ◌∷◌, length, Some, None}
use Rattle.disk_model.specs.Content.{Content}
use Rattle.record_model.specs.Records.{Record}
use Rattle.file_tree.specs.declared.node.Node.{Node}
use Rattle.file_puts.specs.state_model.declared.geometry.Geometry.{Geometry}
use Rattle.file_puts.specs.volume_model.Volumes.{Volume, cluster_bits}
use Rattle.file_puts.specs.volume_state.Trees.{tree_of}
use Rattle.file_puts.specs.plan_owners.States.{Stands}
use Rattle.tree_model.specs.declared.script.Op.{Op}
use Rattle.tree_model.specs.declared.script.Op.TheVariants as op
use Rattle.tree_model.specs.declared.reply.Reply.{Reply}
use Rattle.tree_model.specs.declared.reply.Reply.TheVariants.{Wrote, Size, Fault}
use Rattle.tree_model.specs.Needs.{needed}
use Rattle.tree_model.specs.Effects.{HasChanged}
use Rattle.tree_model.specs.Steps.{is_given_up}
use Rattle.change_lookup.specs.declared.found.Found.TheVariants.{Refused, File}
use Rattle.file_puts.specs.step_model.Contents.{IsLeft}
use Rattle.file_puts.specs.step_model.Steps.{Step}
use Rattle.file_puts.specs.data_plan.Changes.{growth_of, row_of}
use Rattle.file_puts.specs.plan_draft.declared.touched.Touched.{Touched}
use Rattle.file_puts.specs.plan_draft.Drafts.{drafted}
use Rattle.file_puts.specs.Written.{HasWritten}
use Rattle.file_puts.specs.plan_changes.Files.{IsChangeable}
use Rattle.change_steps.specs.Found.{HasChange, Finds}

-- what is said of a file that is written or cut, or stays as it is
abbrev pub change_reply : Op → Reply
change_reply (op.Write path offset bytes) = Wrote (length bytes)
change_reply (op.Fill path offset count byte) = Wrote count
change_reply (op.Truncate path size) = Size size
change_reply other = Fault

-- A content that stands, whose tree is that with the file changed, and that has what the file's data leaves.
pub record IsWritten (c : Content) (g : Geometry) (clusters : ℕ) (v : Volume) (op : Op) (stamp : ℕ) (r : Record) (a : Node) (d : Content) : Type 0 where
  pub after : Volume
  pub stands : Stands d g clusters after
  pub tree : HasChanged (tree_of c v) (needed (tree_of c v) 0 op a) op a stamp (tree_of d after)
  pub left : IsLeft c v clusters (a.number ∷ []) (growth_of (cluster_bits c v) r op a ∷ []) d after

-- Where a draft has written the file, its content is one that has.
abbrev pub DraftsAreWritten : Type 0
DraftsAreWritten = (c : Content) (g : Geometry) (clusters : ℕ) (v : Volume) (op : Op) (n stamp : ℕ) (r : Record) (a : Node) (new : List Touched) → IsChangeable c v n r a → HasWritten c g clusters v op n stamp a (growth_of (cluster_bits c v) r op a) new
    → IsWritten c g clusters v op stamp r a (drafted new c)

-- Nothing is done where a row of the tree refuses the operation, where it is given up, where it changes nothing, and where the file's record
-- would be too full. Else the file is written or cut.
pub record ChangesAreSteps : Type 0 where
  pub refused : (c : Content) (g : Geometry) (clusters : ℕ) (v : Volume) (op : Op) (stamp : ℕ) (said : Reply) → HasChange c g clusters v op → Finds c v op (Refused said) → Step g clusters op stamp said c c
  pub given_up : (c : Content) (g : Geometry) (clusters : ℕ) (v : Volume) (op : Op) (stamp : ℕ) (said : Reply) → HasChange c g clusters v op → is_given_up said ≡ true → Step g clusters op stamp said c c
  pub stays : (c : Content) (g : Geometry) (clusters : ℕ) (v : Volume) (op : Op) (stamp : ℕ) (node : Node) → HasChange c g clusters v op → Finds c v op (File node false) → Step g clusters op stamp (change_reply op) c c
  pub full : (c : Content) (g : Geometry) (clusters : ℕ) (v : Volume) (op : Op) (stamp : ℕ) (node a : Node) (r : Record) (said : Reply) → HasChange c g clusters v op → Finds c v op (File node true) → IsChangeable c v node.number r a
      → row_of (cluster_bits c v) r op a ≡ Some said → Step g clusters op stamp said c c
  pub written : (c : Content) (g : Geometry) (clusters : ℕ) (v : Volume) (op : Op) (stamp : ℕ) (node a : Node) (r : Record) (d : Content) → HasChange c g clusters v op → Finds c v op (File node true) → IsChangeable c v node.number r a
      → row_of (cluster_bits c v) r op a ≡ None → IsWritten c g clusters v op stamp r a d → Step g clusters op stamp (change_reply op) c d
