-- Where the draft has touched nothing: what a file that is written has then, and what a draft that ends so has written.
use Rattle.std.proofs.Common.{◌≡◌, ℕ, List, [], Option, refl, sym, subst}
use Rattle.std.specs.List.{AllByRecursion}
use Rattle.std.proofs.lemmas.List.Elements.{All-nil}
use Rattle.disk_model.specs.declared.block.BlockKind.{BlockKind}
use Rattle.disk_model.specs.Content.{Content, HasSizes as HasBlockSizes}
use Rattle.record_model.specs.declared.runs.Run.{Run}
use Rattle.record_model.specs.Records.{Record}
use Rattle.file_tree.specs.declared.node.Node.{Node}
use Rattle.state_model.specs.declared.geometry.Geometry.{Geometry}
use Rattle.state_model.specs.declared.stream.Extents.{Extents}
use Rattle.written_values.specs.volume_model.Volumes.{Volume, cluster_bits}
use Rattle.written_values.specs.volume_state.Trees.{tree_of}
use Rattle.tree_model.specs.declared.script.Op.{Op}
use Rattle.tree_model.specs.Needs.{needed}
use Rattle.written_values.specs.plan_owners.States.{Stands}
use Rattle.plan_draft.specs.declared.touched.Touched.{Touched}
use Rattle.plan_draft.specs.Touching.{rises, IsWhole}
use Rattle.plan_draft.specs.Drafts.{drafted}
use Rattle.written_values.specs.plan_model.Drafts.{FollowsOwners}
use Rattle.written_values.specs.draft_bits.Effects.{IsKept}
use Rattle.written_values.specs.plan_changes.Files.{IsChangeable, with_own}
use Rattle.written_values.specs.plan_changes.Nodes.{NodeBecomes}
use Rattle.written_values.proofs.plan_changes.Becoming.{nodes_are}
use Rattle.written_values.proofs.plan_changes.Showing.{files_are}
use Rattle.written_values.specs.step_model.Placing.{Growth}
use Rattle.written_values.specs.file_puts.Written.{HasWritten}
use Rattle.written_clusters.proofs.Chaining.{none_drafted, PutsTo}
use Rattle.written_clusters.proofs.Left.{GrowsData, is_left}
use Rattle.written_clusters.proofs.Sizes.{EndsSizes}

pub none_kept : IsKept []
unfolding rises
none_kept = record { rises = refl; whole = All-nil IsWhole }

module _ (c : Content) (g : Geometry) (clusters : ℕ) (v : Volume) (n : ℕ) (r : Record) (a : Node) (sized : HasBlockSizes c) (state : Stands c g clusters v) (k : IsChangeable c v n r a) where
  abbrev first : Content
  first = drafted [] c

  none : first ≡ c
  none = none_drafted c sized

  pub first_state : Stands first g clusters v
  first_state = subst (λ (x : Content). Stands x g clusters v) (sym none) state

  pub first_file : IsChangeable first v n r a
  first_file = subst (λ (x : Content). IsChangeable x v n r a) (sym none) k

  pub first_own : IsChangeable first v n r (with_own first v r a)
  first_own = subst (λ (x : Node). IsChangeable first v n r x) (sym (files_are.itself first v n r a first_file)) first_file

  pub first_becomes : NodeBecomes n a (with_own first v r a) (tree_of c v) (tree_of first v)
  first_becomes =
      subst (λ (x : Content). NodeBecomes n a (with_own first v r a) (tree_of x v) (tree_of first v)) none
      (subst (λ (x : Node). NodeBecomes n a x (tree_of first v) (tree_of first v)) (sym (files_are.itself first v n r a first_file)) (nodes_are.itself n a (tree_of first v) first_file.node))

-- ---- the end

module _ (c : Content) (g : Geometry) (clusters : ℕ) (v w : Volume) (op : Op) (n stamp : ℕ) (a : Node) (e : Extents) (new : List Touched) (gave : ℕ → Option BlockKind) (growth : Growth) (sized : HasBlockSizes c) (k : EndsSizes c g clusters v w op n stamp (needed (tree_of c v) 0 op a) a e new gave)
    (grows : GrowsData c v k.after n growth k.f) where
  pub has_written : HasWritten c g clusters v op n stamp a growth new
  has_written = record {
    after = k.after;
    gave = gave;
    bodies = k.bodies;
    same = k.chain.same;
    content = k.chain.content;
    draft = k.chain.draft;
    tree = k.tree;
    left = is_left c v k.after clusters n growth k.f (drafted new c) k.bodies sized grows k.chain.draft.whole k.chain.content
        (subst (λ (x : Content). FollowsOwners clusters (cluster_bits c v) (cluster_bits x k.after) v.files k.after.files) k.chain.content k.chain.draft.marks)
        (subst (λ (l : List Run). AllByRecursion (λ p. PutsTo v n l p.block) k.bodies) (sym k.runs) k.chain.each);
  }
