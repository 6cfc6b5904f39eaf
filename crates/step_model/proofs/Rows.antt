-- The rows of the content stand behind those of the tree.
use Rattle.std.proofs.Common.{◌≡◌, ◌⊎◌, inl, inr, ℕ, Bool, true, false, cond, List, [], ◌∷◌, ◌++◌, Option, Some, None, Result, Ok, Err, refl, sym, ap, ◌∙◌}
use Rattle.plan_model.specs.file_tree.declared.node.Node.{Node}
use Rattle.plan_model.specs.file_tree.declared.tree.Tree.{Tree}
use Rattle.run_model.specs.tree_model.declared.script.Op.{Op}
use Rattle.run_model.specs.tree_model.declared.script.Op.TheVariants as op
use Rattle.run_model.specs.tree_model.declared.reply.Reply.{Reply}
use Rattle.run_model.specs.tree_model.Walks.{reached, reached_directory}
use Rattle.run_model.specs.tree_model.Needs.{changes_file}
use Rattle.run_model.specs.tree_model.Refusals.{first_of, from_there, parent_path, new_name, create_rows, change_rows}
use Rattle.run_model.specs.tree_model.Steps.{step_refusals, step_refusal}

-- ---- lists of rows

abbrev Rows : Type 0
Rows = List (Option Reply)

-- what stands behind all rows, or nowhere among them
abbrev pub EndsWith : (Rows → Rows) → Type 0
EndsWith rows = ((behind : Rows) → rows behind ≡ rows [] ++ behind) ⊎ ((behind : Rows) → rows behind ≡ rows [])

one_more : (row : Option Reply) (rows : Rows → Rows) → EndsWith rows → EndsWith (λ behind. row ∷ rows behind)
one_more row rows (inl last) = inl (λ behind. ap (λ l. row ∷ l) (last behind))
one_more row rows (inr none) = inr (λ behind. ap (λ l. row ∷ l) (none behind))

where_true : (b : Bool) (rows : Rows → Rows) → EndsWith rows → EndsWith (λ behind. cond b (rows behind) [])
where_true true rows ends = ends
where_true false rows ends = inr (λ behind. refl)

last_ones : EndsWith (λ behind. behind)
last_ones = inl (λ behind. refl)

there : (walked : Result Node Reply) (rows : Node → Rows → Rows) → ((node : Node) → EndsWith (rows node)) → EndsWith (λ behind. from_there walked (λ node. rows node behind))
there (Ok node) rows ends = ends node
there (Err reply) rows ends = inr (λ behind. refl)

-- ---- the rows of an operation

made : (upper : List ℕ) (t : Tree) (end : ℕ) (o : Op) (name : List ℕ) (directory : Node) → EndsWith (λ behind. create_rows upper t end behind o name directory)
made upper t end o name directory = one_more _ (λ behind. _ ∷ _ ∷ _ ∷ _ ∷ behind) (one_more _ (λ behind. _ ∷ _ ∷ _ ∷ behind) (one_more _ (λ behind. _ ∷ _ ∷ behind) (one_more _ (λ behind. _ ∷ behind) (one_more _ (λ behind. behind) last_ones))))

changed : (t : Tree) (end : ℕ) (o : Op) (node : Node) → EndsWith (λ behind. change_rows t end behind o node)
changed t end o node =
    one_more _ (λ behind. _ ∷ _ ∷ cond (changes_file o node) (_ ∷ _ ∷ behind) [])
    (one_more _ (λ behind. _ ∷ cond (changes_file o node) (_ ∷ _ ∷ behind) [])
    (one_more _ (λ behind. cond (changes_file o node) (_ ∷ _ ∷ behind) [])
    (where_true (changes_file o node) (λ behind. _ ∷ _ ∷ behind) (one_more _ (λ behind. _ ∷ behind) (one_more _ (λ behind. behind) last_ones)))))

ends : (upper : List ℕ) (t : Tree) (end : ℕ) (o : Op) → EndsWith (λ behind. step_refusals upper t end behind o)
ends upper t end (op.Create path) = one_more _ (λ behind. from_there (reached_directory upper t.nodes t.links (parent_path path)) (create_rows upper t end behind (op.Create path) (new_name path))) (there (reached_directory upper t.nodes t.links (parent_path path)) (λ node behind. create_rows upper t end behind (op.Create path) (new_name path) node) (made upper t end (op.Create path) (new_name path)))
ends upper t end (op.Write path offset bytes) = one_more _ (λ behind. from_there (reached upper t.nodes t.links path) (change_rows t end behind (op.Write path offset bytes))) (there (reached upper t.nodes t.links path) (λ node behind. change_rows t end behind (op.Write path offset bytes) node) (changed t end (op.Write path offset bytes)))
ends upper t end (op.Fill path offset count byte) = one_more _ (λ behind. from_there (reached upper t.nodes t.links path) (change_rows t end behind (op.Fill path offset count byte))) (there (reached upper t.nodes t.links path) (λ node behind. change_rows t end behind (op.Fill path offset count byte) node) (changed t end (op.Fill path offset count byte)))
ends upper t end (op.Truncate path size) = one_more _ (λ behind. from_there (reached upper t.nodes t.links path) (change_rows t end behind (op.Truncate path size))) (there (reached upper t.nodes t.links path) (λ node behind. change_rows t end behind (op.Truncate path size) node) (changed t end (op.Truncate path size)))
ends upper t end (op.Mkdir path) = inr (λ behind. refl)
ends upper t end (op.Read path offset count) = inr (λ behind. refl)
ends upper t end (op.Stat path) = inr (λ behind. refl)
ends upper t end (op.List path) = inr (λ behind. refl)
ends upper t end (op.Link path new) = inr (λ behind. refl)
ends upper t end (op.Rename path new) = inr (λ behind. refl)
ends upper t end (op.Remove path) = inr (λ behind. refl)
ends upper t end op.Sync = inr (λ behind. refl)
ends upper t end op.Index = inr (λ behind. refl)
ends upper t end (op.Journal from) = inr (λ behind. refl)

-- ---- the first of them

none_before : (rows behind : Rows) → first_of (rows ++ behind) ≡ None → first_of rows ≡ None
none_before [] behind none = refl
none_before (None ∷ rows) behind none = none_before rows behind none
none_before (Some row ∷ rows) behind none = none

first_behind : (rows behind : Rows) → first_of rows ≡ None → first_of (rows ++ behind) ≡ first_of behind
first_behind [] behind none = refl
first_behind (None ∷ rows) behind none = first_behind rows behind none
first_behind (Some row ∷ rows) behind none = absurd cc

-- where no row applies, none of the tree does
pub none_of_tree : (upper : List ℕ) (t : Tree) (end : ℕ) (o : Op) (content : Rows) → step_refusal upper t end content o ≡ None → step_refusal upper t end [] o ≡ None
none_of_tree upper t end o content none = elim (ends upper t end o) [
  | inl last ↦ none_before (step_refusals upper t end [] o) content (ap first_of (sym (last content)) ∙ none)
  | inr same ↦ ap first_of (sym (same content)) ∙ none
]

-- where one does and none of the tree, it is the first of the content
pub row_of_content : (upper : List ℕ) (t : Tree) (end : ℕ) (o : Op) (content : Rows) (row : Reply) → step_refusal upper t end [] o ≡ None → step_refusal upper t end content o ≡ Some row → first_of content ≡ Some row
row_of_content upper t end o content row none some = elim (ends upper t end o) [
  | inl last ↦ sym (first_behind (step_refusals upper t end [] o) content none) ∙ ap first_of (sym (last content)) ∙ some
  | inr same ↦ absurd (none_some row (sym none ∙ ap first_of (sym (same content)) ∙ some))
]
  where
    none_some : (row : Reply) → None ≡ Some row → ⊥
    none_some row is = cc
