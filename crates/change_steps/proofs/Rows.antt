-- Which row refuses an operation that is found, and which rows stand behind.
use Rattle.std.proofs.Common.{◌≡◌, ℕ, ◌+◌, Bool, true, false, cond, List, [], ◌∷◌, Option, Some, None, Result, Ok, Err, refl, sym, ap, ◌∙◌}
use Rattle.std.specs.Prelude.{IsOkAnd, IsSomeAnd}
use Rattle.host_base.specs.declared.file_ref.FileRef.{FileRef}
use Rattle.file_tree.specs.declared.node.Node.{Node}
use Rattle.file_tree.specs.declared.tree.Tree.{Tree}
use Rattle.file_tree.specs.Trees.{is_directory_kind, without_bytes}
use Rattle.tree_model.specs.declared.script.Op.{Op}
use Rattle.tree_model.specs.declared.script.Op.TheVariants as op
use Rattle.tree_model.specs.declared.reply.Reply.{Reply}
use Rattle.tree_model.specs.Walks.{reached, reached_directory, bad_name}
use Rattle.tree_model.specs.declared.reply.Reply.TheVariants as reply
use Rattle.tree_model.specs.Needs.{changes_file, needed, reserve}
use Rattle.tree_model.specs.Refusals.{first_of, where_so, from_there, parent_path, new_name, is_system_node, fixed_names, fixed_bytes, too_long, table_full, no_space, has_same_name, create_rows, change_rows}
use Rattle.change_lookup.specs.tree_lookup.Answered.{bare_result}
use Rattle.change_lookup.specs.declared.found.Found.TheVariants.{Refused, File, Place}
use Rattle.change_lookup.specs.Comes.{FindsBy}

abbrev pub Rows : Type 0
Rows = List (Option Reply)

-- ---- what is found by a row

pub refused_by : (row : Option Reply) (finds : Type 0) (said : Reply) → (finds → ⊥) → FindsBy row finds (Refused said) → row ≡ Some said
refused_by (Some r) finds said none found = let same : said ≡ r = cc in ap (λ (x : Reply). Some x) (sym same)
refused_by None finds said none found = absurd (none found)

pub file_by : (row : Option Reply) (finds : Type 0) (node : Node) (changes : Bool) → FindsBy row finds (File node changes) → (row ≡ None) × finds
file_by (Some r) finds node changes found = absurd cc
file_by None finds node changes found = (refl, found)

pub place_by : (row : Option Reply) (finds : Type 0) (directory : Node) (name : List ℕ) (number : FileRef) → FindsBy row finds (Place directory name number) → (row ≡ None) × finds
place_by (Some r) finds directory name number found = absurd cc
place_by None finds directory name number found = (refl, found)

-- no row is a file or a place
pub no_file : (walked : Result Node Reply) (o : Op) (said : Reply) → IsOkAnd (bare_result walked) (λ node. Refused said ≡ File node (changes_file o node)) → ⊥
no_file (Ok a) o said found = cc
no_file (Err r) o said found = found

no_number : (least : Option FileRef) (directory : Node) (name : List ℕ) (said : Reply) → IsSomeAnd least (λ number. Refused said ≡ Place directory name number) → ⊥
no_number None directory name said found = found
no_number (Some ref) directory name said found = cc

pub no_place : (walked : Result Node Reply) (least : Option FileRef) (name : List ℕ) (said : Reply) → IsOkAnd (bare_result walked) (λ directory. IsSomeAnd least (λ number. Refused said ≡ Place directory name number)) → ⊥
no_place (Ok a) least name said found = no_number least (without_bytes a) name said found
no_place (Err r) least name said found = found

-- ---- rows behind rows

skip : (row : Option Reply) (rest other : Rows) (said : Option Reply) → (first_of rest ≡ None → first_of other ≡ said) → first_of (row ∷ rest) ≡ None → first_of (row ∷ other) ≡ said
skip (Some r) rest other said on none = absurd cc
skip None rest other said on none = on none

none_first : (row : Option Reply) (rest : Rows) → first_of (row ∷ rest) ≡ None → (row ≡ None) × (first_of rest ≡ None)
none_first (Some r) rest none = absurd cc
none_first None rest none = (refl, none)

behind_there : (walked : Result Node Reply) (a : Node) (rows other : Node → Rows) (said : Option Reply) → walked ≡ Ok a → (first_of (rows a) ≡ None → first_of (other a) ≡ said) → first_of (from_there walked rows) ≡ None → first_of (from_there walked other) ≡ said
behind_there (Ok b) a rows other said walked on none =
    let same : b ≡ a = cc in
    ap (λ (x : Node). first_of (other x)) same ∙ on (ap (λ (x : Node). first_of (rows x)) (sym same) ∙ none)
behind_there (Err r) a rows other said walked on none = absurd cc

rows_there : (walked : Result Node Reply) (a : Node) (rows : Node → Rows) → walked ≡ Ok a → first_of (from_there walked rows) ≡ None → first_of (rows a) ≡ None
rows_there (Ok b) a rows walked none = let same : b ≡ a = cc in ap (λ (x : Node). first_of (rows x)) (sym same) ∙ none
rows_there (Err r) a rows walked none = absurd cc

in_choice : (b : Bool) (long space : Option Reply) (content : Rows) → b ≡ true → first_of (cond b (long ∷ space ∷ []) []) ≡ None → first_of (cond b (long ∷ space ∷ content) []) ≡ first_of content
in_choice true long space content is none = skip long (space ∷ []) (space ∷ content) (first_of content) (skip space [] content (first_of content) (λ end. refl)) none
in_choice false long space content is none = absurd cc

not_chosen : (b : Bool) (rows other : Rows) → b ≡ false → first_of (cond b rows []) ≡ None → first_of (cond b other []) ≡ None
not_chosen true rows other is none = absurd cc
not_chosen false rows other is none = refl

three_more : (a b c : Option Reply) (rest other : Rows) (said : Option Reply) → (first_of rest ≡ None → first_of other ≡ said) → first_of (a ∷ b ∷ c ∷ rest) ≡ None → first_of (a ∷ b ∷ c ∷ other) ≡ said
three_more a b c rest other said on none =
    skip a (b ∷ c ∷ rest) (b ∷ c ∷ other) said (skip b (c ∷ rest) (c ∷ other) said (skip c rest other said on)) none

two_more : (a b : Option Reply) (rest other : Rows) (said : Option Reply) → (first_of rest ≡ None → first_of other ≡ said) → first_of (a ∷ b ∷ rest) ≡ None → first_of (a ∷ b ∷ other) ≡ said
two_more a b rest other said on none = skip a (b ∷ rest) (b ∷ other) said (skip b rest other said on) none

change_behind : (t : Tree) (content : Rows) (o : Op) (a : Node) → changes_file o a ≡ true → first_of (change_rows t 0 [] o a) ≡ None → first_of (change_rows t 0 content o a) ≡ first_of content
change_behind t content o a changes none =
    let long = too_long o a in
    let space = no_space t (needed t 0 o a + reserve o a) in
    three_more (where_so (is_directory_kind a.kind) reply.IsDirectory) (where_so (is_system_node t.nodes t.links a) reply.System) (fixed_bytes a.why) (cond (changes_file o a) (long ∷ space ∷ []) []) (cond (changes_file o a) (long ∷ space ∷ content) []) (first_of content)
    (in_choice (changes_file o a) long space content changes) none

change_stays : (t : Tree) (content : Rows) (o : Op) (a : Node) → changes_file o a ≡ false → first_of (change_rows t 0 [] o a) ≡ None → first_of (change_rows t 0 content o a) ≡ None
change_stays t content o a stays none =
    let long = too_long o a in
    let space = no_space t (needed t 0 o a + reserve o a) in
    three_more (where_so (is_directory_kind a.kind) reply.IsDirectory) (where_so (is_system_node t.nodes t.links a) reply.System) (fixed_bytes a.why) (cond (changes_file o a) (long ∷ space ∷ []) []) (cond (changes_file o a) (long ∷ space ∷ content) []) None
    (not_chosen (changes_file o a) (long ∷ space ∷ []) (long ∷ space ∷ content) stays) none

create_behind : (upper : List ℕ) (t : Tree) (content : Rows) (o : Op) (name : List ℕ) (a : Node) → first_of (create_rows upper t 0 [] o name a) ≡ None → first_of (create_rows upper t 0 content o name a) ≡ first_of content
create_behind upper t content o name a none =
    let full = table_full t in
    let space = no_space t (needed t 0 o a + reserve o a) in
    three_more (where_so (is_system_node t.nodes t.links a) reply.System) (fixed_names a.why) (where_so (has_same_name upper t.links a.number name) reply.Exists) (full ∷ space ∷ []) (full ∷ space ∷ content) (first_of content)
    (two_more full space [] content (first_of content) (λ end. refl)) none

-- ---- with the walk

abbrev pub rows_of_change : List ℕ → Tree → Rows → List (List ℕ) → Op → Option Reply
rows_of_change upper t content path o = first_of (bad_name path ∷ from_there (reached upper t.nodes t.links path) (change_rows t 0 content o))

pub change_rows_behind : (upper : List ℕ) (t : Tree) (content : Rows) (path : List (List ℕ)) (o : Op) (a : Node) → reached upper t.nodes t.links path ≡ Ok a → changes_file o a ≡ true
    → rows_of_change upper t [] path o ≡ None → rows_of_change upper t content path o ≡ first_of content
change_rows_behind upper t content path o a walked changes none =
    skip (bad_name path) (from_there (reached upper t.nodes t.links path) (change_rows t 0 [] o)) (from_there (reached upper t.nodes t.links path) (change_rows t 0 content o)) (first_of content)
    (behind_there (reached upper t.nodes t.links path) a (change_rows t 0 [] o) (change_rows t 0 content o) (first_of content) walked (change_behind t content o a changes)) none

pub change_rows_stay : (upper : List ℕ) (t : Tree) (content : Rows) (path : List (List ℕ)) (o : Op) (a : Node) → reached upper t.nodes t.links path ≡ Ok a → changes_file o a ≡ false
    → rows_of_change upper t [] path o ≡ None → rows_of_change upper t content path o ≡ None
change_rows_stay upper t content path o a walked stays none =
    skip (bad_name path) (from_there (reached upper t.nodes t.links path) (change_rows t 0 [] o)) (from_there (reached upper t.nodes t.links path) (change_rows t 0 content o)) None
    (behind_there (reached upper t.nodes t.links path) a (change_rows t 0 [] o) (change_rows t 0 content o) None walked (change_stays t content o a stays)) none

-- the first three rows of the file
pub change_rows_there : (upper : List ℕ) (t : Tree) (path : List (List ℕ)) (o : Op) (a : Node) → reached upper t.nodes t.links path ≡ Ok a → rows_of_change upper t [] path o ≡ None → first_of (change_rows t 0 [] o a) ≡ None
change_rows_there upper t path o a walked none = rows_there (reached upper t.nodes t.links path) a (change_rows t 0 [] o) walked (none_first (bad_name path) (from_there (reached upper t.nodes t.links path) (change_rows t 0 [] o)) none).1

abbrev pub rows_of_making : List ℕ → Tree → Rows → Option Reply → List (List ℕ) → Option Reply
rows_of_making upper t content bad path = first_of (bad ∷ from_there (reached_directory upper t.nodes t.links (parent_path path)) (create_rows upper t 0 content (op.Create path) (new_name path)))

pub making_behind : (upper : List ℕ) (t : Tree) (content : Rows) (bad : Option Reply) (path : List (List ℕ)) (a : Node) → reached_directory upper t.nodes t.links (parent_path path) ≡ Ok a
    → rows_of_making upper t [] bad path ≡ None → rows_of_making upper t content bad path ≡ first_of content
making_behind upper t content bad path a walked none =
    let walk = reached_directory upper t.nodes t.links (parent_path path) in
    let rows = create_rows upper t 0 [] (op.Create path) (new_name path) in
    let other = create_rows upper t 0 content (op.Create path) (new_name path) in
    skip bad (from_there walk rows) (from_there walk other) (first_of content) (behind_there walk a rows other (first_of content) walked (create_behind upper t content (op.Create path) (new_name path) a)) none
