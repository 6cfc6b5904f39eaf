-- What nothing refuses says of the directory and the name of a new file.
use Rattle.std.proofs.Common.{◌≡◌, ℕ, ◌+◌, Bool, true, false, List, [], ◌∷◌, Option, Some, None, Result, Ok, Err, refl, sym, ap, ◌∙◌}
use Rattle.file_tree.specs.declared.node.Node.{Node}
use Rattle.file_tree.specs.declared.tree.Tree.{Tree}
use Rattle.tree_model.specs.declared.script.Op.TheVariants as op
use Rattle.tree_model.specs.declared.reply.Reply.{Reply}
use Rattle.tree_model.specs.declared.reply.Reply.TheVariants as reply
use Rattle.tree_model.specs.Walks.{reached_directory}
use Rattle.tree_model.specs.Needs.{needed, reserve}
use Rattle.tree_model.specs.Refusals.{first_of, where_so, from_there, parent_path, new_name, is_bad_new_path, is_system_node, fixed_names, table_full, no_space, has_same_name, create_rows}
use Rattle.tree_model.specs.Steps.{step_refusal}

abbrev Rows : Type 0
Rows = List (Option Reply)

none_first : (row : Option Reply) (rest : Rows) → first_of (row ∷ rest) ≡ None → (row ≡ None) × (first_of rest ≡ None)
none_first (Some r) rest none = absurd cc
none_first None rest none = (refl, none)

rows_there : (walked : Result Node Reply) (a : Node) (rows : Node → Rows) → walked ≡ Ok a → first_of (from_there walked rows) ≡ None → first_of (rows a) ≡ None
rows_there (Ok b) a rows walked none = let same : b ≡ a = cc in ap (λ (x : Node). first_of (rows x)) (sym same) ∙ none
rows_there (Err r) a rows walked none = absurd cc

so_none : (b : Bool) (said : Reply) → where_so b said ≡ None → b ≡ false
so_none true said none = absurd cc
so_none false said none = refl

three_none : (a b d : Option Reply) (rest : Rows) → first_of (a ∷ b ∷ d ∷ rest) ≡ None → (a ≡ None) × (b ≡ None) × (d ≡ None)
three_none None None None rest none = (refl, refl, refl)
three_none None None (Some said) rest none = absurd cc
three_none None (Some said) d rest none = absurd cc
three_none (Some said) b d rest none = absurd cc

-- the directory is none of the volume's own, has no attribute list, and has no name of the same units
pub record IsUnrefused (upper : List ℕ) (t : Tree) (a : Node) (name : List ℕ) : Type 0 where
  pub system : is_system_node t.nodes t.links a ≡ false
  pub unfixed : fixed_names a.why ≡ None
  pub no_name : has_same_name upper t.links a.number name ≡ false

pub unrefused : (upper : List ℕ) (t : Tree) (path : List (List ℕ)) (a : Node) → reached_directory upper t.nodes t.links (parent_path path) ≡ Ok a → step_refusal upper t 0 [] (op.Create path) ≡ None → IsUnrefused upper t a (new_name path)
unrefused upper t path a walked none =
    let behind = (none_first (where_so (is_bad_new_path path) reply.BadName) (from_there (reached_directory upper t.nodes t.links (parent_path path)) (create_rows upper t 0 [] (op.Create path) (new_name path))) none).1 in
    let rows = rows_there (reached_directory upper t.nodes t.links (parent_path path)) a (create_rows upper t 0 [] (op.Create path) (new_name path)) walked behind in
    let three = three_none (where_so (is_system_node t.nodes t.links a) reply.System) (fixed_names a.why) (where_so (has_same_name upper t.links a.number (new_name path)) reply.Exists) (table_full t ∷ no_space t (needed t 0 (op.Create path) a + reserve (op.Create path) a) ∷ []) rows in
    record { system = so_none (is_system_node t.nodes t.links a) reply.System three.0; unfixed = three.1; no_name = so_none (has_same_name upper t.links a.number (new_name path)) reply.Exists three.2 }
