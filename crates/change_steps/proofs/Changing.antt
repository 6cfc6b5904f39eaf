-- A file that is written or cut: the step of its content.
use Rattle.std.proofs.Common.{◌≡◌, inl, inr, ℕ, Bool, true, false, List, [], ◌∷◌, Option, Some, None, Ok, refl, sym, ap, subst, ◌∙◌}
use Rattle.disk_model.specs.Content.{Content}
use Rattle.record_model.specs.Records.{Record}
use Rattle.file_tree.specs.declared.node.Node.{Node}
use Rattle.file_tree.specs.declared.tree.Tree.{Tree}
use Rattle.file_tree.specs.Trees.{node_at as node_by_number}
use Rattle.file_puts.specs.state_model.declared.geometry.Geometry.{Geometry}
use Rattle.file_puts.specs.volume_model.Volumes.{Volume, file_in, cluster_bits, upper_of}
use Rattle.file_puts.specs.volume_state.Trees.{tree_of}
use Rattle.file_puts.specs.tree_laws.Parts.{journal_number}
use Rattle.file_puts.specs.plan_owners.States.{Stands}
use Rattle.file_puts.proofs.plan_model.Drafting.{per_is}
use Rattle.tree_model.specs.declared.script.Op.{Op}
use Rattle.tree_model.specs.declared.script.Op.TheVariants as op
use Rattle.tree_model.specs.declared.reply.Reply.{Reply}
use Rattle.tree_model.specs.declared.reply.Reply.TheVariants as reply
use Rattle.tree_model.specs.Walks.{reached, reached_directory}
use Rattle.tree_model.specs.Needs.{changes_file}
use Rattle.tree_model.specs.Refusals.{parent_path, new_name}
use Rattle.tree_model.specs.Effects.{numbers_to_take, least_ref}
use Rattle.tree_model.specs.Steps.{HasStep, step_refusal, LeavesFile, IsChanged, is_given_up}
use Rattle.change_lookup.specs.declared.found.Found.TheVariants as found
use Rattle.change_lookup.specs.Comes.{is_file_change}
use Rattle.file_puts.specs.step_model.Plans.{Plan, no_plan, change_or_none, IsChangePlan, IsPlan, with_journal, content_rows}
use Rattle.file_puts.specs.step_model.Contents.{IsLeft}
use Rattle.file_puts.specs.step_model.Steps.{Answer, GivenUp, Refused, answer_of, IsRefused, IsDoneIn, LeavesContent, HasChangedContent, StepBy, HasAnswer, Step}
use Rattle.file_puts.proofs.step_model.Stepping.{answers_listed}
use Rattle.file_puts.specs.plan_changes.Files.{IsChangeable}
use Rattle.change_steps.specs.Found.{HasChange, Finds}
use Rattle.file_puts.specs.data_plan.Changes.{row_of, growth_of}
use Rattle.file_puts.specs.plan_draft.Drafts.{drafted}
use Rattle.file_puts.proofs.plan_changes.Showing.{node_shows}
use Rattle.change_steps.specs.Changes.{change_reply, IsWritten, DraftsAreWritten, ChangesAreSteps}
use Rattle.change_steps.proofs.Rows.{refused_by, file_by, no_file, no_place, rows_of_change, change_rows_behind, change_rows_stay}
use Rattle.change_steps.proofs.Finding.{Reached, reached_by, node_there, no_place_is_file}
use Rattle.change_steps.proofs.Planning.{without_journal, plan_of_file, plan_is, one_row, ok_and, at_node, left_with_journal}

-- ---- a step

pub has_step : (o : Op) (t : Tree) → is_file_change o ≡ true → t.journal ≡ None → HasStep o t
has_step (op.Create path) t is none = none
has_step (op.Write path offset bytes) t is none = none
has_step (op.Fill path offset count byte) t is none = none
has_step (op.Truncate path size) t is none = none
has_step other t is none = absurd cc

has_answer : (o : Op) (c : Content) (v : Volume) → is_file_change o ≡ true → (tree_of c v).journal ≡ None → HasAnswer o c v
has_answer (op.Create path) c v is none = none
has_answer (op.Write path offset bytes) c v is none = none
has_answer (op.Fill path offset count byte) c v is none = none
has_answer (op.Truncate path size) c v is none = none
has_answer other c v is none = absurd cc

pub step_by : (c d : Content) (g : Geometry) (clusters : ℕ) (v : Volume) (o : Op) (stamp : ℕ) (said : Reply) → HasChange c g clusters v o
    → StepBy (answer_of o said) (IsDoneIn c v g clusters o 0 stamp said d) (IsRefused c v o 0 said) (d ≡ c) → Step g clusters o stamp said c d
step_by c d g clusters v o stamp said has by = record {
  old = v;
  stands = has.stands;
  eight = per_is c g clusters v has.eight has.stands;
  has = has_answer o c v has.changes has.journal;
  by = by;
}

pub refused_step : (c : Content) (g : Geometry) (clusters : ℕ) (v : Volume) (o : Op) (stamp : ℕ) (said : Reply) → HasChange c g clusters v o → answer_of o said ≡ Refused → IsRefused c v o 0 said → Step g clusters o stamp said c c
refused_step c g clusters v o stamp said has is refused =
    step_by c c g clusters v o stamp said has (subst (λ (a : Answer). StepBy a (IsDoneIn c v g clusters o 0 stamp said c) (IsRefused c v o 0 said) (c ≡ c)) (sym is) (refused, refl))

-- ---- a row of the tree

row_said : (c : Content) (v : Volume) (o : Op) (said : Reply) → is_file_change o ≡ true → Finds c v o (found.Refused said) → step_refusal (upper_of c v) (tree_of c v) 0 [] o ≡ Some said
row_said c v (op.Create path) said is finds =
    refused_by _ _ said (no_place (reached_directory (upper_of c v) (tree_of c v).nodes (tree_of c v).links (parent_path path)) (least_ref (numbers_to_take (tree_of c v))) (new_name path) said) finds
row_said c v (op.Write path offset bytes) said is finds = refused_by _ _ said (no_file (reached (upper_of c v) (tree_of c v).nodes (tree_of c v).links path) (op.Write path offset bytes) said) finds
row_said c v (op.Fill path offset count byte) said is finds = refused_by _ _ said (no_file (reached (upper_of c v) (tree_of c v).nodes (tree_of c v).links path) (op.Fill path offset count byte) said) finds
row_said c v (op.Truncate path size) said is finds = refused_by _ _ said (no_file (reached (upper_of c v) (tree_of c v).nodes (tree_of c v).links path) (op.Truncate path size) said) finds
row_said c v other said is finds = absurd cc

refused : (c : Content) (g : Geometry) (clusters : ℕ) (v : Volume) (o : Op) (stamp : ℕ) (said : Reply) → HasChange c g clusters v o → Finds c v o (found.Refused said) → Step g clusters o stamp said c c
refused c g clusters v o stamp said has finds =
    let row = row_said c v o said has.changes finds in
    refused_step c g clusters v o stamp said has (answers_listed.refused (upper_of c v) (tree_of c v) 0 o said (has_step o (tree_of c v) has.changes has.journal) row) (inl row)

-- ---- given up

given_answer : (o : Op) (said : Reply) → is_file_change o ≡ true → is_given_up said ≡ true → answer_of o said ≡ GivenUp
given_answer (op.Create path) reply.Fault is given = refl
given_answer (op.Create path) reply.Memory is given = refl
given_answer (op.Write path offset bytes) reply.Fault is given = refl
given_answer (op.Write path offset bytes) reply.Memory is given = refl
given_answer (op.Fill path offset count byte) reply.Fault is given = refl
given_answer (op.Fill path offset count byte) reply.Memory is given = refl
given_answer (op.Truncate path size) reply.Fault is given = refl
given_answer (op.Truncate path size) reply.Memory is given = refl
given_answer o said is given = absurd cc

given_up : (c : Content) (g : Geometry) (clusters : ℕ) (v : Volume) (o : Op) (stamp : ℕ) (said : Reply) → HasChange c g clusters v o → is_given_up said ≡ true → Step g clusters o stamp said c c
given_up c g clusters v o stamp said has given =
    step_by c c g clusters v o stamp said has (subst (λ (a : Answer). StepBy a (IsDoneIn c v g clusters o 0 stamp said c) (IsRefused c v o 0 said) (c ≡ c)) (sym (given_answer o said has.changes given)) refl)

-- ---- what is done, part by part

record Parts (c : Content) (v : Volume) (g : Geometry) (clusters : ℕ) (path : List (List ℕ)) (o : Op) (stamp : ℕ) (said : Reply) (d : Content) : Type 0 where
  plan : Plan
  is_own : IsChangePlan c v path o plan
  is : plan ≡ with_journal c v 0 plan
  unrefused : rows_of_change (upper_of c v) (tree_of c v) (content_rows plan) path o ≡ None
  new : Volume
  stands : Stands d g clusters new
  tree : IsChanged (upper_of c v) path o 0 stamp said said (tree_of c v) (tree_of d new)
  content : HasChangedContent c v clusters path o plan d new

-- a file that stays
stays_parts : (c : Content) (g : Geometry) (clusters : ℕ) (v : Volume) (path : List (List ℕ)) (o : Op) (stamp : ℕ) (said : Reply) (node : Node) → Stands c g clusters v → (tree_of c v).journal ≡ None → Reached (upper_of c v) (tree_of c v) path o node false
    → Parts c v g clusters path o stamp said c
stays_parts c g clusters v path o stamp said node stands journal at =
    let t = tree_of c v in
    let walked = reached (upper_of c v) t.nodes t.links path in
    record {
      plan = no_plan;
      is_own = at_node walked at.a (λ x. no_plan ≡ change_or_none (changes_file o x) c v o x) (no_plan ≡ no_plan) at.walked (ap (λ (b : Bool). change_or_none b c v o at.a) at.same);
      is = sym (without_journal c v 0 no_plan journal refl);
      unrefused = change_rows_stay (upper_of c v) t (content_rows no_plan) path o at.a at.walked (sym at.same) at.none;
      new = v;
      stands = stands;
      tree = ok_and walked at.a (λ x. (said ≡ said) × LeavesFile (changes_file o x) t 0 o x stamp t) at.walked (refl, subst (λ (b : Bool). LeavesFile b t 0 o at.a stamp t) at.same refl);
      content = ok_and walked at.a (λ x. LeavesContent (changes_file o x) c v clusters x no_plan c v) at.walked (subst (λ (b : Bool). LeavesContent b c v clusters at.a no_plan c v) at.same refl);
    }

-- the node that is reached is the file's
record Same (c : Content) (v : Volume) (path : List (List ℕ)) (o : Op) (r : Record) (a : Node) : Type 0 where
  walked : reached (upper_of c v) (tree_of c v).nodes (tree_of c v).links path ≡ Ok a
  file : file_in v a.number ≡ Some r
  changes : changes_file o a ≡ true

same_node : (o : Option Node) (a b : Node) → o ≡ Some a → o ≡ Some b → a ≡ b
same_node o a b first second = cc

same_file : (c : Content) (v : Volume) (path : List (List ℕ)) (o : Op) (node a : Node) (r : Record) → Reached (upper_of c v) (tree_of c v) path o node true → IsChangeable c v node.number r a → Same c v path o r a
same_file c v path o node a r at k =
    let t = tree_of c v in
    let numbers : node.number ≡ at.a.number = ap (λ (x : Node). x.number) at.bare in
    let same : at.a ≡ a = same_node (node_by_number t.nodes node.number) at.a a (ap (node_by_number t.nodes) numbers ∙ node_there (upper_of c v) t path at.a at.walked) k.node in
    record {
      walked = at.walked ∙ ap (λ (x : Node). Ok x) same;
      file = ap (file_in v) (sym (numbers ∙ ap (λ (x : Node). x.number) same)) ∙ k.file;
      changes = ap (changes_file o) (sym same) ∙ sym at.same;
    }

own_is : (c : Content) (v : Volume) (path : List (List ℕ)) (o : Op) (r : Record) (a : Node) → Same c v path o r a → IsChangePlan c v path o (plan_of_file c v r o a)
own_is c v path o r a k =
    let t = tree_of c v in
    at_node (reached (upper_of c v) t.nodes t.links path) a (λ x. plan_of_file c v r o a ≡ change_or_none (changes_file o x) c v o x) (plan_of_file c v r o a ≡ no_plan) k.walked
    (plan_is c v r o a k.file ∙ ap (λ (b : Bool). change_or_none b c v o a) (sym k.changes))

rows_are : (c : Content) (v : Volume) (path : List (List ℕ)) (o : Op) (r : Record) (a : Node) → Same c v path o r a → rows_of_change (upper_of c v) (tree_of c v) [] path o ≡ None
    → rows_of_change (upper_of c v) (tree_of c v) (content_rows (plan_of_file c v r o a)) path o ≡ row_of (cluster_bits c v) r o a
rows_are c v path o r a k none =
    change_rows_behind (upper_of c v) (tree_of c v) (content_rows (plan_of_file c v r o a)) path o a k.walked k.changes none ∙ one_row (row_of (cluster_bits c v) r o a)

written_parts : (c : Content) (g : Geometry) (clusters : ℕ) (v : Volume) (path : List (List ℕ)) (o : Op) (stamp : ℕ) (said : Reply) (r : Record) (a : Node) (d : Content) → (tree_of c v).journal ≡ None → Same c v path o r a
    → rows_of_change (upper_of c v) (tree_of c v) [] path o ≡ None → row_of (cluster_bits c v) r o a ≡ None → IsWritten c g clusters v o stamp r a d → Parts c v g clusters path o stamp said d
written_parts c g clusters v path o stamp said r a d journal k none room w =
    let t = tree_of c v in
    let t' = tree_of d w.after in
    let p = plan_of_file c v r o a in
    let walked = reached (upper_of c v) t.nodes t.links path in
    record {
      plan = p;
      is_own = own_is c v path o r a k;
      is = sym (without_journal c v 0 p journal refl);
      unrefused = rows_are c v path o r a k none ∙ room;
      new = w.after;
      stands = w.stands;
      tree = ok_and walked a (λ x. (said ≡ said) × LeavesFile (changes_file o x) t 0 o x stamp t') k.walked (refl, subst (λ (b : Bool). LeavesFile b t 0 o a stamp t') (sym k.changes) w.tree);
      content = ok_and walked a (λ x. LeavesContent (changes_file o x) c v clusters x p d w.after) k.walked
          (subst (λ (b : Bool). LeavesContent b c v clusters a p d w.after) (sym k.changes) (left_with_journal c v clusters (journal_number (upper_of c v) v) (a.number ∷ []) p.growths d w.after w.left));
    }

-- ---- by operations

-- an operation that writes or cuts the file at a path
abbrev pub IsOn : List (List ℕ) → Op → Type 0
IsOn path (op.Write at offset bytes) = at ≡ path
IsOn path (op.Fill at offset count byte) = at ≡ path
IsOn path (op.Truncate at size) = at ≡ path
IsOn path other = ⊥

none_found : (c : Content) (v : Volume) (path : List (List ℕ)) (node : Node) (changes : Bool) → Finds c v (op.Create path) (found.File node changes) → ⊥
none_found c v path node changes finds = no_place_is_file (reached_directory (upper_of c v) (tree_of c v).nodes (tree_of c v).links (parent_path path)) (least_ref (numbers_to_take (tree_of c v))) (new_name path) node changes (file_by _ _ node changes finds).1

done_by : (c d : Content) (g : Geometry) (clusters : ℕ) (v : Volume) (o : Op) (stamp : ℕ) (path : List (List ℕ)) → HasChange c g clusters v o → IsOn path o → Parts c v g clusters path o stamp (change_reply o) d → Step g clusters o stamp (change_reply o) c d
done_by c d g clusters v (op.Write at offset bytes) stamp path has is parts =
    let o = op.Write at offset bytes in
    let p = subst (λ (x : List (List ℕ)). Parts c v g clusters x o stamp (change_reply o) d) (sym is) parts in
    step_by c d g clusters v o stamp (change_reply o) has (record {
      plan = p.plan;
      is_plan = record { own = p.plan; is_own = p.is_own; is = p.is };
      unrefused = p.unrefused;
      new = p.new;
      stands = p.stands;
      tree = p.tree;
      content = p.content;
    })
done_by c d g clusters v (op.Fill at offset count byte) stamp path has is parts =
    let o = op.Fill at offset count byte in
    let p = subst (λ (x : List (List ℕ)). Parts c v g clusters x o stamp (change_reply o) d) (sym is) parts in
    step_by c d g clusters v o stamp (change_reply o) has (record {
      plan = p.plan;
      is_plan = record { own = p.plan; is_own = p.is_own; is = p.is };
      unrefused = p.unrefused;
      new = p.new;
      stands = p.stands;
      tree = p.tree;
      content = p.content;
    })
done_by c d g clusters v (op.Truncate at size) stamp path has is parts =
    let o = op.Truncate at size in
    let p = subst (λ (x : List (List ℕ)). Parts c v g clusters x o stamp (change_reply o) d) (sym is) parts in
    step_by c d g clusters v o stamp (change_reply o) has (record {
      plan = p.plan;
      is_plan = record { own = p.plan; is_own = p.is_own; is = p.is };
      unrefused = p.unrefused;
      new = p.new;
      stands = p.stands;
      tree = p.tree;
      content = p.content;
    })
done_by c d g clusters v other stamp path has is parts = absurd is

pub record OnFile (c : Content) (v : Volume) (o : Op) (node : Node) (changes : Bool) : Type 0 where
  pub path : List (List ℕ)
  pub is_on : IsOn path o
  pub at : Reached (upper_of c v) (tree_of c v) path o node changes

pub on_file : (c : Content) (v : Volume) (o : Op) (node : Node) (changes : Bool) → is_file_change o ≡ true → Finds c v o (found.File node changes) → OnFile c v o node changes
on_file c v (op.Create path) node changes is finds = absurd (none_found c v path node changes finds)
on_file c v (op.Write path offset bytes) node changes is finds = record { path = path; is_on = refl; at = reached_by (upper_of c v) (tree_of c v) path (op.Write path offset bytes) node changes (file_by _ _ node changes finds) }
on_file c v (op.Fill path offset count byte) node changes is finds = record { path = path; is_on = refl; at = reached_by (upper_of c v) (tree_of c v) path (op.Fill path offset count byte) node changes (file_by _ _ node changes finds) }
on_file c v (op.Truncate path size) node changes is finds = record { path = path; is_on = refl; at = reached_by (upper_of c v) (tree_of c v) path (op.Truncate path size) node changes (file_by _ _ node changes finds) }
on_file c v other node changes is finds = absurd cc

stays : (c : Content) (g : Geometry) (clusters : ℕ) (v : Volume) (o : Op) (stamp : ℕ) (node : Node) → HasChange c g clusters v o → Finds c v o (found.File node false) → Step g clusters o stamp (change_reply o) c c
stays c g clusters v o stamp node has finds =
    let f = on_file c v o node false has.changes finds in
    done_by c c g clusters v o stamp f.path has f.is_on (stays_parts c g clusters v f.path o stamp (change_reply o) node has.stands has.journal f.at)

written : (c : Content) (g : Geometry) (clusters : ℕ) (v : Volume) (o : Op) (stamp : ℕ) (node a : Node) (r : Record) (d : Content) → HasChange c g clusters v o → Finds c v o (found.File node true) → IsChangeable c v node.number r a
    → row_of (cluster_bits c v) r o a ≡ None → IsWritten c g clusters v o stamp r a d → Step g clusters o stamp (change_reply o) c d
written c g clusters v o stamp node a r d has finds k room w =
    let f = on_file c v o node true has.changes finds in
    done_by c d g clusters v o stamp f.path has f.is_on (written_parts c g clusters v f.path o stamp (change_reply o) r a d has.journal (same_file c v f.path o node a r f.at k) f.at.none room w)

-- ---- a record that would be too full

pub content_refused : (c : Content) (g : Geometry) (clusters : ℕ) (v : Volume) (o : Op) (stamp : ℕ) (said : Reply) (p : Plan) → HasChange c g clusters v o → IsPlan c v o 0 p → step_refusal (upper_of c v) (tree_of c v) 0 [] o ≡ None
    → step_refusal (upper_of c v) (tree_of c v) 0 (content_rows p) o ≡ Some said → Step g clusters o stamp said c c
content_refused c g clusters v o stamp said p has plan none row =
    refused_step c g clusters v o stamp said has (answers_listed.content c v o 0 p said (has_step o (tree_of c v) has.changes has.journal) plan none row) (inr (none, (p, plan, row)))

full_by : (c : Content) (g : Geometry) (clusters : ℕ) (v : Volume) (o : Op) (stamp : ℕ) (said : Reply) (r : Record) (a : Node) (path : List (List ℕ)) → HasChange c g clusters v o → IsOn path o → Same c v path o r a
    → rows_of_change (upper_of c v) (tree_of c v) [] path o ≡ None → row_of (cluster_bits c v) r o a ≡ Some said → Step g clusters o stamp said c c
full_by c g clusters v (op.Write at offset bytes) stamp said r a path has is same none row =
    let o = op.Write at offset bytes in
    let k = subst (λ (x : List (List ℕ)). Same c v x o r a) (sym is) same in
    let free = subst (λ (x : List (List ℕ)). rows_of_change (upper_of c v) (tree_of c v) [] x o ≡ None) (sym is) none in
    let p = plan_of_file c v r o a in
    content_refused c g clusters v o stamp said p has (record { own = p; is_own = own_is c v at o r a k; is = sym (without_journal c v 0 p has.journal refl) }) free (rows_are c v at o r a k free ∙ row)
full_by c g clusters v (op.Fill at offset count byte) stamp said r a path has is same none row =
    let o = op.Fill at offset count byte in
    let k = subst (λ (x : List (List ℕ)). Same c v x o r a) (sym is) same in
    let free = subst (λ (x : List (List ℕ)). rows_of_change (upper_of c v) (tree_of c v) [] x o ≡ None) (sym is) none in
    let p = plan_of_file c v r o a in
    content_refused c g clusters v o stamp said p has (record { own = p; is_own = own_is c v at o r a k; is = sym (without_journal c v 0 p has.journal refl) }) free (rows_are c v at o r a k free ∙ row)
full_by c g clusters v (op.Truncate at size) stamp said r a path has is same none row =
    let o = op.Truncate at size in
    let k = subst (λ (x : List (List ℕ)). Same c v x o r a) (sym is) same in
    let free = subst (λ (x : List (List ℕ)). rows_of_change (upper_of c v) (tree_of c v) [] x o ≡ None) (sym is) none in
    let p = plan_of_file c v r o a in
    content_refused c g clusters v o stamp said p has (record { own = p; is_own = own_is c v at o r a k; is = sym (without_journal c v 0 p has.journal refl) }) free (rows_are c v at o r a k free ∙ row)
full_by c g clusters v other stamp said r a path has is same none row = absurd is

full : (c : Content) (g : Geometry) (clusters : ℕ) (v : Volume) (o : Op) (stamp : ℕ) (node a : Node) (r : Record) (said : Reply) → HasChange c g clusters v o → Finds c v o (found.File node true) → IsChangeable c v node.number r a
    → row_of (cluster_bits c v) r o a ≡ Some said → Step g clusters o stamp said c c
full c g clusters v o stamp node a r said has finds k row =
    let f = on_file c v o node true has.changes finds in
    full_by c g clusters v o stamp said r a f.path has f.is_on (same_file c v f.path o node a r f.at k) f.at.none row

-- ---- a draft

pub drafts_are_written : DraftsAreWritten
drafts_are_written c g clusters v o n stamp r a new k w =
    let number : a.number ≡ n = (node_shows c v n r a k).number in
    record {
      after = w.after;
      stands = subst (λ (d : Content). Stands d g clusters w.after) w.content w.draft.stands;
      tree = w.tree;
      left = subst (λ (m : ℕ). IsLeft c v clusters (m ∷ []) (growth_of (cluster_bits c v) r o a ∷ []) (drafted new c) w.after) (sym number) w.left;
    }

pub changes_are_steps : ChangesAreSteps
changes_are_steps = record { refused = refused; given_up = given_up; stays = stays; full = full; written = written }
