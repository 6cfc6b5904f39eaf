-- The rows of a change, by a tree's counts and what was asked of its nodes and names.
use Rattle.std.proofs.Common.{◌≡◌, ℕ, suc, ◌+◌, Bool, true, false, List, [], ◌∷◌, length, find, Option, Some, None, Result, Ok, refl, sym, ap, ◌∙◌, arith}
use Rattle.std.specs.Prelude.{◌==◌, nat_lt, is_some, if◌then◌else◌}
use Rattle.std.specs.Option.{option_or}
use Rattle.std.proofs.lemmas.Bool.Decides.{nat_tests}
use Rattle.host_base.specs.declared.file_ref.FileRef.{FileRef}
use Rattle.tree_lookup.specs.file_tree.declared.link.Link.{Link}
use Rattle.tree_lookup.specs.file_tree.declared.node.Node.{Node}
use Rattle.tree_lookup.specs.file_tree.declared.tree.Tree.{Tree}
use Rattle.tree_lookup.specs.file_tree.Names.{same_units}
use Rattle.tree_lookup.specs.file_tree.Trees.{is_directory_kind, look_up, same_links, first_of_two, first_in_order, without_bytes}
use Rattle.tree_lookup.specs.tree_model.declared.script.Op.{Op}
use Rattle.tree_lookup.specs.tree_model.declared.script.Op.TheVariants as op
use Rattle.tree_lookup.specs.tree_model.declared.reply.Reply.{Reply}
use Rattle.tree_lookup.specs.tree_model.declared.reply.Reply.TheVariants as reply
use Rattle.tree_lookup.specs.tree_model.Needs.{needed, reserve, changes_file}
use Rattle.tree_lookup.specs.tree_model.Refusals.{first_of, where_so, is_in_system, is_system_node, fixed_bytes, fixed_names, has_same_name, table_full, no_space, too_long, change_rows, create_rows}
use Rattle.tree_lookup.specs.tree_model.Effects.{least_ref}
use Rattle.change_lookup.specs.Counts.{counts_of}
use Rattle.change_lookup.proofs.Numbers.{is_spare}

-- ---- a file

-- the rows ask for no bytes
pub bare_change : (t : Tree) (o : Op) (n : Node) → change_rows t 0 [] o (without_bytes n) ≡ change_rows t 0 [] o n
unfolding is_system_node
bare_change t (op.Write path offset bytes) n = refl
bare_change t (op.Fill path offset count byte) n = refl
bare_change t (op.Truncate path size) n = refl
bare_change t other n = refl

-- a file that is no directory says by its kind whether it is one of the volume itself
system_by : (d : Bool) (t s : Tree) (n : Node) (rest : List (Option Reply)) → is_directory_kind n.kind ≡ d
    → first_of (where_so d reply.IsDirectory ∷ where_so (is_system_node t.nodes t.links n) reply.System ∷ rest) ≡ first_of (where_so d reply.IsDirectory ∷ where_so (is_system_node s.nodes s.links n) reply.System ∷ rest)
unfolding is_system_node
system_by true t s n rest is = refl
system_by false t s n rest is = rw is refl

needed_same : (t s : Tree) (o : Op) (n : Node) → t.journal ≡ None → s.journal ≡ None → changes_file o n ≡ true → needed t 0 o n ≡ needed s 0 o n
needed_same t s (op.Write path offset bytes) n a b changes = rw (a, b) refl
needed_same t s (op.Fill path offset count byte) n a b changes = rw (a, b) refl
needed_same t s (op.Truncate path size) n a b changes = rw (a, b) refl
needed_same t s other n a b changes = absurd cc

no_space_same : (t s : Tree) (a b : ℕ) → t.room ≡ s.room → a ≡ b → no_space t a ≡ no_space s b
no_space_same t s a b rooms is = rw (rooms, is) refl

rest_by : (changes : Bool) (t s : Tree) (o : Op) (n : Node) → changes_file o n ≡ changes → t.journal ≡ None → s.journal ≡ None → t.room ≡ s.room
    → (if changes then too_long o n ∷ no_space t (needed t 0 o n + reserve o n) ∷ [] else []) ≡ (if changes then too_long o n ∷ no_space s (needed s 0 o n + reserve o n) ∷ [] else [])
rest_by false t s o n is a b rooms = refl
rest_by true t s o n is a b rooms =
    ap (λ (row : Option Reply). too_long o n ∷ row ∷ []) (no_space_same t s (needed t 0 o n + reserve o n) (needed s 0 o n + reserve o n) rooms (ap (λ k. k + reserve o n) (needed_same t s o n a b is)))

change_same : (t s : Tree) (o : Op) (n : Node) → t.journal ≡ None → s.journal ≡ None → t.room ≡ s.room → first_of (change_rows t 0 [] o n) ≡ first_of (change_rows s 0 [] o n)
change_same t s o n a b rooms =
    system_by (is_directory_kind n.kind) t s n (fixed_bytes n.why ∷ (if changes_file o n then too_long o n ∷ no_space t (needed t 0 o n + reserve o n) ∷ [] else [])) refl
    ∙ ap (λ (rest : List (Option Reply)). first_of (where_so (is_directory_kind n.kind) reply.IsDirectory ∷ where_so (is_system_node s.nodes s.links n) reply.System ∷ fixed_bytes n.why ∷ rest)) (rest_by (changes_file o n) t s o n refl a b rooms)

-- the rows of a file are those of the counts alone
pub change_counted : (t : Tree) (room count : ℕ) (o : Op) (n : Node) → t.journal ≡ None → room ≡ t.room → first_of (change_rows t 0 [] o n) ≡ first_of (change_rows (counts_of room count None) 0 [] o n)
change_counted t room count o n none rooms = change_same t (counts_of room count None) o n none refl (sym rooms)

-- ---- a new name

-- the rows of a name in a directory
abbrev pub name_rows : List ℕ → Tree → Node → List ℕ → List (Option Reply)
name_rows upper t n name = where_so (is_system_node t.nodes t.links n) reply.System ∷ fixed_names n.why ∷ where_so (has_same_name upper t.links n.number name) reply.Exists ∷ []

-- the rows of a number and of clusters for it
abbrev pub room_rows : Tree → List (List ℕ) → Node → List (Option Reply)
room_rows t path n = table_full t ∷ no_space t (needed t 0 (op.Create path) n + reserve (op.Create path) n) ∷ []

system_is : (t : Tree) (n : Node) → is_directory_kind n.kind ≡ true → is_system_node t.nodes t.links n ≡ is_in_system t.links (length t.nodes) n.number
unfolding is_system_node
system_is t n kind = rw kind refl

system_said : (t : Tree) (n : Node) (said : Bool) → is_directory_kind n.kind ≡ true → ◌≡◌ {A = Result Bool (Unit {0})} (Ok (is_in_system t.links (length t.nodes) n.number)) (Ok said) → is_system_node t.nodes t.links n ≡ said
system_said t n said kind is = let e : is_in_system t.links (length t.nodes) n.number ≡ said = cc in system_is t n kind ∙ e

or_some : (o : Option Link) (l : Link) → is_some (option_or o (Some l)) ≡ true
or_some None l = refl
or_some (Some k) l = refl

some_length : (n : ℕ) → nat_lt 0 (suc n) ≡ true
some_length n = grind (arith, nat_tests)

same_by : (upper name : List ℕ) (same : List Link) → nat_lt 0 (length same) ≡ is_some (option_or (find (λ (l : Link). same_units l.name name) same) (first_in_order upper same))
same_by upper name [] = refl
same_by upper name (l ∷ same) = some_length (length same) ∙ sym (or_some (find (λ (k : Link). same_units k.name name) (l ∷ same)) (first_of_two upper l (first_in_order upper same)))

-- a look-up says whether a directory has the name
has_name : (upper : List ℕ) (links : List Link) (directory : ℕ) (name : List ℕ) → has_same_name upper links directory name ≡ is_some (look_up upper links directory name)
unfolding has_same_name look_up
has_name upper links directory name = same_by upper name (same_links upper links directory name)

pub name_said : (upper : List ℕ) (t : Tree) (directory : ℕ) (name : List ℕ) (link : Option Link) → ◌≡◌ {A = Result (Option Link) (Unit {0})} (Ok (look_up upper t.links directory name)) (Ok link) → has_same_name upper t.links directory name ≡ is_some link
name_said upper t directory name link is = let e : look_up upper t.links directory name ≡ link = cc in has_name upper t.links directory name ∙ ap is_some e

pub is_system_row : (upper : List ℕ) (t : Tree) (n : Node) (name : List ℕ) → is_directory_kind n.kind ≡ true → ◌≡◌ {A = Result Bool (Unit {0})} (Ok (is_in_system t.links (length t.nodes) n.number)) (Ok true)
    → ◌≡◌ {A = Result (Option Reply) (Unit {0})} (Ok (first_of (name_rows upper t n name))) (Ok (Some reply.System))
is_system_row upper t n name kind is = rw (system_said t n true kind is) refl

pub is_fixed_row : (upper : List ℕ) (t : Tree) (n : Node) (name : List ℕ) (row : Reply) → is_directory_kind n.kind ≡ true → ◌≡◌ {A = Result Bool (Unit {0})} (Ok (is_in_system t.links (length t.nodes) n.number)) (Ok false)
    → fixed_names n.why ≡ Some row → ◌≡◌ {A = Result (Option Reply) (Unit {0})} (Ok (first_of (name_rows upper t n name))) (Ok (Some row))
is_fixed_row upper t n name row kind is fixed = rw (system_said t n false kind is, fixed) refl

last_row : (o : Option Reply) → first_of (o ∷ []) ≡ o
last_row None = refl
last_row (Some row) = refl

pub is_name_row : (upper : List ℕ) (t : Tree) (n : Node) (name : List ℕ) → is_directory_kind n.kind ≡ true → ◌≡◌ {A = Result Bool (Unit {0})} (Ok (is_in_system t.links (length t.nodes) n.number)) (Ok false)
    → fixed_names n.why ≡ None → first_of (name_rows upper t n name) ≡ where_so (has_same_name upper t.links n.number name) reply.Exists
is_name_row upper t n name kind is free = rw (system_said t n false kind is, free) (last_row (where_so (has_same_name upper t.links n.number name) reply.Exists))

-- ---- a new file

-- the rows ask for no bytes
pub bare_create : (upper : List ℕ) (t : Tree) (path : List (List ℕ)) (name : List ℕ) (n : Node) → create_rows upper t 0 [] (op.Create path) name (without_bytes n) ≡ create_rows upper t 0 [] (op.Create path) name n
unfolding is_system_node
bare_create upper t path name n = refl

first_row : (a b c : Option Reply) (rest : List (Option Reply)) (row : Reply) → first_of (a ∷ b ∷ c ∷ []) ≡ Some row → first_of (a ∷ b ∷ c ∷ rest) ≡ Some row
first_row (Some a) b c rest row is = is
first_row None (Some b) c rest row is = is
first_row None None (Some c) rest row is = is
first_row None None None rest row is = absurd cc

no_row : (a b c : Option Reply) (rest : List (Option Reply)) → first_of (a ∷ b ∷ c ∷ []) ≡ None → first_of (a ∷ b ∷ c ∷ rest) ≡ first_of rest
no_row (Some a) b c rest is = absurd cc
no_row None (Some b) c rest is = absurd cc
no_row None None (Some c) rest is = absurd cc
no_row None None None rest is = refl

full_same : (t : Tree) (room count : ℕ) (least : Option FileRef) → least_ref t.spare ≡ least → count ≡ t.count → table_full t ≡ table_full (counts_of room count least)
full_same t room count least is counted = rw (counted, is_spare t room count least is) refl

needs_same : (t : Tree) (room count : ℕ) (least : Option FileRef) (path : List (List ℕ)) (n m : Node) → t.journal ≡ None → least_ref t.spare ≡ least
    → needed t 0 (op.Create path) n ≡ needed (counts_of room count least) 0 (op.Create path) m
needs_same t room count least path n m none is = rw (none, is_spare t room count least is) refl

-- the rows of a new file behind those of its name are those of the counts alone
pub room_counted : (t : Tree) (room count : ℕ) (least : Option FileRef) (path : List (List ℕ)) (n m : Node) → t.journal ≡ None → room ≡ t.room → count ≡ t.count → least_ref t.spare ≡ least
    → first_of (room_rows t path n) ≡ first_of (room_rows (counts_of room count least) path m)
room_counted t room count least path n m none rooms counted is =
    let spaces : no_space t (needed t 0 (op.Create path) n + 64) ≡ no_space (counts_of room count least) (needed (counts_of room count least) 0 (op.Create path) m + 64) =
    no_space_same t (counts_of room count least) _ _ (sym rooms) (ap (λ k. k + 64) (needs_same t room count least path n m none is)) in
    ap (λ (row : Option Reply). first_of (row ∷ no_space t (needed t 0 (op.Create path) n + 64) ∷ [])) (full_same t room count least is counted)
    ∙ ap (λ (row : Option Reply). first_of (table_full (counts_of room count least) ∷ row ∷ [])) spaces

pub name_first : (upper : List ℕ) (t : Tree) (path : List (List ℕ)) (name : List ℕ) (n : Node) (row : Reply) → first_of (name_rows upper t n name) ≡ Some row → first_of (create_rows upper t 0 [] (op.Create path) name n) ≡ Some row
name_first upper t path name n row is = first_row (where_so (is_system_node t.nodes t.links n) reply.System) (fixed_names n.why) (where_so (has_same_name upper t.links n.number name) reply.Exists) (room_rows t path n) row is

pub room_behind : (upper : List ℕ) (t : Tree) (path : List (List ℕ)) (name : List ℕ) (n : Node) → first_of (name_rows upper t n name) ≡ None → first_of (create_rows upper t 0 [] (op.Create path) name n) ≡ first_of (room_rows t path n)
room_behind upper t path name n is = no_row (where_so (is_system_node t.nodes t.links n) reply.System) (fixed_names n.why) (where_so (has_same_name upper t.links n.number name) reply.Exists) (room_rows t path n) is
