-- A file that is made: the step of its content.
use Rattle.std.proofs.Common.{◌≡◌, ℕ, List, [], ◌∷◌, Option, Some, None, Ok, refl, sym, ap, subst, ◌∙◌}
use Rattle.std.specs.Prelude.{IsSomeAnd}
use Rattle.host_base.specs.declared.file_ref.FileRef.{FileRef}
use Rattle.disk_model.specs.Content.{Content}
use Rattle.record_model.specs.Records.{Record}
use Rattle.file_tree.specs.declared.node.Node.{Node}
use Rattle.file_tree.specs.Trees.{node_at as node_by_number}
use Rattle.file_puts.specs.index_model.Trees.{levels}
use Rattle.file_puts.specs.state_model.declared.geometry.Geometry.{Geometry}
use Rattle.file_puts.specs.volume_model.Volumes.{Volume, upper_of}
use Rattle.file_puts.specs.volume_state.Trees.{tree_of}
use Rattle.file_puts.specs.tree_laws.Parts.{journal_number}
use Rattle.tree_model.specs.declared.script.Op.TheVariants.{Create}
use Rattle.tree_model.specs.declared.reply.Reply.{Reply}
use Rattle.tree_model.specs.declared.reply.Reply.TheVariants as reply
use Rattle.tree_model.specs.Walks.{reached_directory}
use Rattle.tree_model.specs.Needs.{needed}
use Rattle.tree_model.specs.Refusals.{first_of, where_so, is_bad_new_path, parent_path, new_name}
use Rattle.tree_model.specs.Effects.{numbers_to_take, least_ref, HasCreated}
use Rattle.change_lookup.specs.declared.found.Found.TheVariants as found
use Rattle.file_puts.specs.step_model.Spreads.{Outcome, Flat, Raised, TooDeep}
use Rattle.file_puts.specs.step_model.Plans.{Plan, no_plan, made_plan, IsMadePlan, IsPlan, content_rows}
use Rattle.file_puts.specs.step_model.Contents.{IsLeft}
use Rattle.file_puts.specs.step_model.Steps.{HasIndex, touched_files, Step}
use Rattle.change_steps.specs.Found.{HasChange, Finds}
use Rattle.change_steps.specs.Makings.{IsMade, MakingsAreSteps}
use Rattle.change_steps.proofs.Rows.{place_by, rows_of_making, making_behind}
use Rattle.change_steps.proofs.Finding.{found_place}
use Rattle.change_steps.proofs.Planning.{without_journal, ok_and, at_node, left_with_journal}
use Rattle.change_steps.proofs.Changing.{step_by, content_refused}

-- ---- the plan

no_journal_by : (c : Content) (v : Volume) (name : List ℕ) (directory : ℕ) (r : Record) (height : ℕ) (o : Outcome) → (made_plan c v name directory r height o).journal ≡ []
no_journal_by c v name directory r height (Flat s more) = refl
no_journal_by c v name directory r height (Raised s more u further) = refl
no_journal_by c v name directory r height (TooDeep s more) = refl

no_journal : (c : Content) (v : Volume) (path : List (List ℕ)) (a : Node) (p : Plan) → IsMadePlan c v path a p → p.journal ≡ []
no_journal c v path a p k = ap (λ (x : Plan). x.journal) k.is ∙ no_journal_by c v (new_name path) a.number k.r (levels k.t) k.outcome

-- what was found, with the node of the tree
record Placed (c : Content) (v : Volume) (path : List (List ℕ)) (a : Node) (name : List ℕ) (ref : FileRef) : Type 0 where
  walked : reached_directory (upper_of c v) (tree_of c v).nodes (tree_of c v).links (parent_path path) ≡ Ok a
  named : name ≡ new_name path
  least : least_ref (numbers_to_take (tree_of c v)) ≡ Some ref
  none : rows_of_making (upper_of c v) (tree_of c v) [] (where_so (is_bad_new_path path) reply.BadName) path ≡ None

same_node : (o : Option Node) (a b : Node) → o ≡ Some a → o ≡ Some b → a ≡ b
same_node o a b first second = cc

placed : (c : Content) (v : Volume) (path : List (List ℕ)) (directory a : Node) (name : List ℕ) (ref : FileRef) → Finds c v (Create path) (found.Place directory name ref) → node_by_number (tree_of c v).nodes directory.number ≡ Some a → Placed c v path a name ref
placed c v path directory a name ref finds node =
    let both = place_by _ _ directory name ref finds in
    let at = found_place c v path directory name ref both.1 in
    record {
      walked = at.walked ∙ ap (λ (x : Node). Ok x) (same_node (node_by_number (tree_of c v).nodes directory.number) at.a a at.node node);
      named = at.named;
      least = at.least;
      none = both.0;
    }

plan_of_making : (c : Content) (g : Geometry) (clusters : ℕ) (v : Volume) (path : List (List ℕ)) (a : Node) (name : List ℕ) (ref : FileRef) (p : Plan) → HasChange c g clusters v (Create path) → Placed c v path a name ref → IsMadePlan c v path a p → IsPlan c v (Create path) 0 p
plan_of_making c g clusters v path a name ref p has at k = record {
  own = p;
  is_own = at_node (reached_directory (upper_of c v) (tree_of c v).nodes (tree_of c v).links (parent_path path)) a (λ x. IsMadePlan c v path x p) (p ≡ no_plan) at.walked k;
  is = sym (without_journal c v 0 p has.journal (no_journal c v path a p k));
}

rows_are : (c : Content) (v : Volume) (path : List (List ℕ)) (a : Node) (name : List ℕ) (ref : FileRef) (p : Plan) → Placed c v path a name ref
    → rows_of_making (upper_of c v) (tree_of c v) (content_rows p) (where_so (is_bad_new_path path) reply.BadName) path ≡ first_of (content_rows p)
rows_are c v path a name ref p at = making_behind (upper_of c v) (tree_of c v) (content_rows p) (where_so (is_bad_new_path path) reply.BadName) path a at.walked at.none

-- ---- both ends

full : (c : Content) (g : Geometry) (clusters : ℕ) (v : Volume) (path : List (List ℕ)) (stamp : ℕ) (directory a : Node) (name : List ℕ) (ref : FileRef) (p : Plan) (said : Reply) → HasChange c g clusters v (Create path) → Finds c v (Create path) (found.Place directory name ref)
    → node_by_number (tree_of c v).nodes directory.number ≡ Some a → IsMadePlan c v path a p → first_of (content_rows p) ≡ Some said → Step g clusters (Create path) stamp said c c
full c g clusters v path stamp directory a name ref p said has finds node k row =
    let at = placed c v path directory a name ref finds node in
    content_refused c g clusters v (Create path) stamp said p has (plan_of_making c g clusters v path a name ref p has at k) at.none (rows_are c v path a name ref p at ∙ row)

some_and : {A : Type 0} (o : Option A) (x : A) (P : A → Type 0) → o ≡ Some x → P x → IsSomeAnd o P
some_and (Some y) x P is holds = let same : x ≡ y = cc in subst P same holds
some_and None x P is holds = absurd cc

made : (c : Content) (g : Geometry) (clusters : ℕ) (v : Volume) (path : List (List ℕ)) (stamp : ℕ) (directory a : Node) (name : List ℕ) (ref : FileRef) (p : Plan) (d : Content) → HasChange c g clusters v (Create path) → Finds c v (Create path) (found.Place directory name ref)
    → node_by_number (tree_of c v).nodes directory.number ≡ Some a → IsMadePlan c v path a p → first_of (content_rows p) ≡ None → IsMade c g clusters v path stamp a name ref p d → Step g clusters (Create path) stamp (reply.Created ref.number ref.seq) c d
made c g clusters v path stamp directory a name ref p d has finds node k free m =
    let t = tree_of c v in
    let t' = tree_of d m.after in
    let at = placed c v path directory a name ref finds node in
    let walked = reached_directory (upper_of c v) t.nodes t.links (parent_path path) in
    let least = least_ref (numbers_to_take t) in
    let said = reply.Created ref.number ref.seq in
    let created : HasCreated t (needed t 0 (Create path) a) stamp a (new_name path) ref t' = subst (λ (x : List ℕ). HasCreated t (needed t 0 (Create path) a) stamp a x ref t') at.named m.tree in
    let left : IsLeft c v clusters (touched_files c v (ref.number ∷ a.number ∷ [])) p.growths d m.after = left_with_journal c v clusters (journal_number (upper_of c v) v) (ref.number ∷ a.number ∷ []) p.growths d m.after m.left in
    step_by c d g clusters v (Create path) stamp said has (record {
      plan = p;
      is_plan = plan_of_making c g clusters v path a name ref p has at k;
      unrefused = rows_are c v path a name ref p at ∙ free;
      new = m.after;
      stands = m.stands;
      tree = ok_and walked a (λ x. IsSomeAnd least (λ y. (said ≡ reply.Created y.number y.seq) × HasCreated t (needed t 0 (Create path) x) stamp x (new_name path) y t')) at.walked
          (some_and least ref (λ y. (said ≡ reply.Created y.number y.seq) × HasCreated t (needed t 0 (Create path) a) stamp a (new_name path) y t') at.least (refl, created));
      content = ok_and walked a (λ x. IsSomeAnd least (λ y. IsLeft c v clusters (touched_files c v (y.number ∷ x.number ∷ [])) p.growths d m.after × IsSomeAnd p.index (λ s. HasIndex d m.after x.number s))) at.walked
          (some_and least ref (λ y. IsLeft c v clusters (touched_files c v (y.number ∷ a.number ∷ [])) p.growths d m.after × IsSomeAnd p.index (λ s. HasIndex d m.after a.number s)) at.least (left, m.index));
    })

pub makings_are_steps : MakingsAreSteps
makings_are_steps = record { full = full; made = made }
