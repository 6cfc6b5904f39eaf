-- From the place of a new file, and from what is made there, to the step of a content.
use Rattle.std.specs.Prelude.{◌≡◌, ℕ, List, [], ◌∷◌, Some, None, IsSomeAnd}
use Rattle.host_base.specs.declared.file_ref.FileRef.{FileRef}
use Rattle.disk_model.specs.Content.{Content}
use Rattle.file_tree.specs.declared.node.Node.{Node}
use Rattle.file_tree.specs.Trees.{node_at as node_by_number}
use Rattle.file_puts.specs.state_model.declared.geometry.Geometry.{Geometry}
use Rattle.file_puts.specs.volume_model.Volumes.{Volume}
use Rattle.file_puts.specs.volume_state.Trees.{tree_of}
use Rattle.file_puts.specs.plan_owners.States.{Stands}
use Rattle.tree_model.specs.declared.script.Op.TheVariants.{Create}
use Rattle.tree_model.specs.declared.reply.Reply.{Reply}
use Rattle.tree_model.specs.declared.reply.Reply.TheVariants.{Created}
use Rattle.tree_model.specs.Needs.{needed}
use Rattle.tree_model.specs.Refusals.{first_of}
use Rattle.tree_model.specs.Effects.{HasCreated}
use Rattle.change_lookup.specs.declared.found.Found.TheVariants.{Place}
use Rattle.file_puts.specs.step_model.Plans.{Plan, IsMadePlan, content_rows}
use Rattle.file_puts.specs.step_model.Contents.{IsLeft}
use Rattle.file_puts.specs.step_model.Steps.{HasIndex, Step}
use Rattle.change_steps.specs.Found.{HasChange, Finds}

-- A content that stands, whose tree is that with the new file, and that has what the plan leaves.
pub record IsMade (c : Content) (g : Geometry) (clusters : ℕ) (v : Volume) (path : List (List ℕ)) (stamp : ℕ) (a : Node) (name : List ℕ) (ref : FileRef) (p : Plan) (d : Content) : Type 0 where
  pub after : Volume
  pub stands : Stands d g clusters after
  pub tree : HasCreated (tree_of c v) (needed (tree_of c v) 0 (Create path) a) stamp a name ref (tree_of d after)
  pub left : IsLeft c v clusters (ref.number ∷ a.number ∷ []) p.growths d after
  pub index : IsSomeAnd p.index (λ s. HasIndex d after a.number s)

-- Nothing is done where a record would be too full or the directory's index too deep. Else the file is made.
pub record MakingsAreSteps : Type 0 where
  pub full : (c : Content) (g : Geometry) (clusters : ℕ) (v : Volume) (path : List (List ℕ)) (stamp : ℕ) (directory a : Node) (name : List ℕ) (ref : FileRef) (p : Plan) (said : Reply) → HasChange c g clusters v (Create path) → Finds c v (Create path) (Place directory name ref)
      → node_by_number (tree_of c v).nodes directory.number ≡ Some a → IsMadePlan c v path a p → first_of (content_rows p) ≡ Some said → Step g clusters (Create path) stamp said c c
  pub made : (c : Content) (g : Geometry) (clusters : ℕ) (v : Volume) (path : List (List ℕ)) (stamp : ℕ) (directory a : Node) (name : List ℕ) (ref : FileRef) (p : Plan) (d : Content) → HasChange c g clusters v (Create path) → Finds c v (Create path) (Place directory name ref)
      → node_by_number (tree_of c v).nodes directory.number ≡ Some a → IsMadePlan c v path a p → first_of (content_rows p) ≡ None → IsMade c g clusters v path stamp a name ref p d → Step g clusters (Create path) stamp (Created ref.number ref.seq) c d
