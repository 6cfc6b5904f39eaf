-- What is found is there.
use Rattle.std.proofs.Common.{◌≡◌, ℕ, ◌+◌, Bool, true, false, cond, ◌||◌, List, [], ◌∷◌, find, Option, Some, None, Result, Ok, Err, refl, sym, ap, ◌∙◌}
use Rattle.std.specs.Prelude.{IsOkAnd, IsSomeAnd, if◌then◌else◌}
use Rattle.std.specs.Option.{option_or}
use Rattle.std.proofs.lemmas.Bool.{eqb-true}
use Rattle.host_base.specs.Answers.{◌>>=◌, needs}
use Rattle.host_base.specs.declared.file_ref.FileRef.{FileRef}
use Rattle.disk_model.specs.Content.{Content}
use Rattle.record_model.specs.Records.{Record}
use Rattle.record_model.specs.Constants.{attribute_list, reparse_point}
use Rattle.file_tree.specs.declared.node.Kind.TheVariants as kind
use Rattle.file_tree.specs.declared.node.Why.{Why}
use Rattle.file_tree.specs.declared.node.Why.TheVariants as why
use Rattle.file_tree.specs.declared.node.Node.{Node}
use Rattle.file_tree.specs.declared.tree.Tree.{Tree}
use Rattle.file_tree.specs.Trees.{has_number, node_at as node_by_number, is_directory_kind, without_bytes}
use Rattle.file_tree.specs.Walks.{root}
use Rattle.file_puts.specs.state_model.declared.geometry.Geometry.{Geometry}
use Rattle.file_puts.specs.state_model.Files.{is_directory_record, record_links, has_type, is_encrypted, is_compressed, is_sparse, why_by}
use Rattle.file_puts.specs.state_model.Trees.{is_system, is_nameless}
use Rattle.file_puts.specs.volume_model.Volumes.{Volume, files_by_number, count_of, file_in, bytes_or, upper_of}
use Rattle.file_puts.specs.volume_model.Nodes.{data_flags, has_sparse_run, sparse_if, why_not, is_unread, is_unchanged, kind_in, node_with, node_by, some_node, node_at}
use Rattle.file_puts.specs.volume_state.Trees.{tree_of}
use Rattle.file_puts.proofs.plan_model.Stepping.{tree_nodes}
use Rattle.tree_model.specs.declared.script.Op.{Op}
use Rattle.tree_model.specs.declared.script.Op.TheVariants as op
use Rattle.tree_model.specs.declared.reply.Reply.{Reply}
use Rattle.tree_model.specs.declared.reply.Reply.TheVariants as reply
use Rattle.tree_model.specs.Walks.{some_or, entered, walk, reached, reached_directory}
use Rattle.tree_model.specs.Needs.{changes_file, needed, reserve}
use Rattle.tree_model.specs.Refusals.{first_of, where_so, is_system_kind, is_system_node, fixed_bytes, too_long, no_space, change_rows, parent_path, new_name}
use Rattle.tree_model.specs.Effects.{numbers_to_take, least_ref}
use Rattle.change_lookup.specs.tree_lookup.Answered.{bare_result}
use Rattle.change_lookup.specs.declared.found.Found.TheVariants.{File, Place}
use Rattle.change_lookup.specs.Comes.{FindsFile, FindsPlace}
use Rattle.change_steps.specs.Found.{HasChange, Finds, IsFileFound, IsPlaceFound, FoundIsThere}
use Rattle.change_steps.proofs.Rows.{file_by, place_by, rows_of_change, change_rows_there}

-- ---- a node at its own number

first_is : (number : ℕ) (m n : Node) (rest : Option Node) (t : Bool) → has_number number m ≡ t → (rest ≡ Some n → n.number ≡ number) → cond t (Some m) rest ≡ Some n → n.number ≡ number
first_is number m n rest true is later found = let same : m ≡ n = cc in ap (λ (x : Node). x.number) (sym same) ∙ eqb-true m.number number is
first_is number m n rest false is later found = later found

find_number : (number : ℕ) (nodes : List Node) (n : Node) → find (has_number number) nodes ≡ Some n → n.number ≡ number
find_number number [] n is = absurd cc
find_number number (m ∷ nodes) n is = first_is number m n (find (has_number number) nodes) (has_number number m) refl (find_number number nodes n) is

own_number : (nodes : List Node) (number : ℕ) (n : Node) → node_by_number nodes number ≡ Some n → node_by_number nodes n.number ≡ Some n
unfolding node_by_number
own_number nodes number n is = ap (λ (k : ℕ). find (has_number k) nodes) (find_number number nodes n is) ∙ is

some_is : (o : Option Node) (at : ℕ) (n : Node) → some_or o (reply.NotFound at) ≡ Ok n → o ≡ Some n
some_is None at n is = absurd cc
some_is (Some m) at n is = let same : m ≡ n = cc in ap (λ (x : Node). Some x) same

bound : (r : Result ℕ Reply) (f : ℕ → Result Node Reply) (n : Node) → (r >>= f) ≡ Ok n → (child : ℕ) × (f child ≡ Ok n)
bound (Ok child) f n is = (child, is)
bound (Err said) f n is = absurd cc

-- a walk ends at a node of the tree
walked_node : (upper : List ℕ) (t : Tree) (at number : ℕ) (path : List (List ℕ)) (n : Node) → walk upper t.nodes t.links at number path ≡ Ok n → node_by_number t.nodes n.number ≡ Some n
unfolding walk
walked_node upper t at number [] n is = own_number t.nodes number n (some_is (node_by_number t.nodes number) at n is)
walked_node upper t at number (part ∷ rest) n is =
    let next = bound (entered upper t.nodes t.links at number part) (λ child. walk upper t.nodes t.links (at + 1) child rest) n is in
    walked_node upper t (at + 1) next.0 rest n next.1

pub node_there : (upper : List ℕ) (t : Tree) (path : List (List ℕ)) (n : Node) → reached upper t.nodes t.links path ≡ Ok n → node_by_number t.nodes n.number ≡ Some n
unfolding reached
node_there upper t path n is = walked_node upper t 0 root path n is

record Parted (found : Result Node Reply) (n : Node) : Type 0 where
  found_is : found ≡ Ok n
  directory : is_directory_kind n.kind ≡ true

needed_by : (m n : Node) (t : Bool) (said : Reply) → is_directory_kind m.kind ≡ t → (needs t said >>= λ _. Ok m) ≡ Ok n → Parted (Ok m) n
needed_by m n true said is found = let same : m ≡ n = cc in record { found_is = ap (λ (x : Node). Ok x) same; directory = ap (λ (x : Node). is_directory_kind x.kind) (sym same) ∙ is }
needed_by m n false said is found = absurd cc

directory_by : (found : Result Node Reply) (said : Reply) (n : Node) → (found >>= λ node. needs (is_directory_kind node.kind) said >>= λ _. Ok node) ≡ Ok n → Parted found n
directory_by (Ok m) said n is = needed_by m n (is_directory_kind m.kind) said refl is
directory_by (Err r) said n is = absurd cc

parted : (upper : List ℕ) (t : Tree) (path : List (List ℕ)) (n : Node) → reached_directory upper t.nodes t.links path ≡ Ok n → Parted (reached upper t.nodes t.links path) n
unfolding reached_directory
parted upper t path n is = directory_by (reached upper t.nodes t.links path) _ n is

-- ---- a file

pub record Reached (upper : List ℕ) (t : Tree) (path : List (List ℕ)) (o : Op) (node : Node) (changes : Bool) : Type 0 where
  pub a : Node
  pub walked : reached upper t.nodes t.links path ≡ Ok a
  pub bare : node ≡ without_bytes a
  pub same : changes ≡ changes_file o a
  pub none : rows_of_change upper t [] path o ≡ None

bare_changes : (o : Op) (a : Node) → changes_file o (without_bytes a) ≡ changes_file o a
bare_changes (op.Write path offset bytes) a = refl
bare_changes (op.Fill path offset count byte) a = refl
bare_changes (op.Truncate path size) a = refl
bare_changes other a = refl

record Bared (walked : Result Node Reply) (o : Op) (node : Node) (changes : Bool) : Type 0 where
  a : Node
  walked_is : walked ≡ Ok a
  bare : node ≡ without_bytes a
  same : changes ≡ changes_file o a

bared : (walked : Result Node Reply) (o : Op) (node : Node) (changes : Bool) → IsOkAnd (bare_result walked) (λ n. File node changes ≡ File n (changes_file o n)) → Bared walked o node changes
bared (Ok a) o node changes found = record {
  a = a;
  walked_is = refl;
  bare = (let e : node ≡ without_bytes a = cc in e);
  same = (let e : changes ≡ changes_file o (without_bytes a) = cc in e) ∙ bare_changes o a;
}
bared (Err r) o node changes found = absurd found

abbrev pub FileBy : List ℕ → Tree → List (List ℕ) → Op → Node → Bool → Type 0
FileBy upper t path o node changes = (rows_of_change upper t [] path o ≡ None) × FindsFile upper t path o (File node changes)

pub reached_by : (upper : List ℕ) (t : Tree) (path : List (List ℕ)) (o : Op) (node : Node) (changes : Bool) → FileBy upper t path o node changes → Reached upper t path o node changes
reached_by upper t path o node changes found =
    let at = bared (reached upper t.nodes t.links path) o node changes found.1 in
    record { a = at.a; walked = at.walked_is; bare = at.bare; same = at.same; none = found.0 }

-- ---- its data can be changed

so_none : (b : Bool) (said : Reply) → where_so b said ≡ None → b ≡ false
so_none true said none = absurd cc
so_none false said none = refl

free_of : (w : Option Why) → fixed_bytes w ≡ None → w ≡ None
free_of None none = refl
free_of (Some fixed) none = absurd cc

-- by what a node says of a file it is one whose bytes change
kind_by : (dir sys listed reparse encrypted compressed sparse hole : Bool) → is_directory_kind (if dir then kind.Directory else if sys then kind.System else if reparse || encrypted || compressed then kind.Opaque else if listed || sparse || hole then kind.Fixed else kind.File) ≡ false
    → is_system_kind (if dir then kind.Directory else if sys then kind.System else if reparse || encrypted || compressed then kind.Opaque else if listed || sparse || hole then kind.Fixed else kind.File) ≡ false
    → option_or (if listed then Some why.List else if reparse then Some why.Reparse else if encrypted then Some why.Encrypted else if compressed then Some why.Compressed else if sparse then Some why.Sparse else None) (sparse_if hole) ≡ None
    → (if dir then kind.Directory else if sys then kind.System else if reparse || encrypted || compressed then kind.Opaque else if listed || sparse || hole then kind.Fixed else kind.File) ≡ kind.File
kind_by true sys listed reparse encrypted compressed sparse hole no_directory no_system free = absurd cc
kind_by false true listed reparse encrypted compressed sparse hole no_directory no_system free = absurd cc
kind_by false false true reparse encrypted compressed sparse hole no_directory no_system free = absurd cc
kind_by false false false true encrypted compressed sparse hole no_directory no_system free = absurd cc
kind_by false false false false true compressed sparse hole no_directory no_system free = absurd cc
kind_by false false false false false true sparse hole no_directory no_system free = absurd cc
kind_by false false false false false false true hole no_directory no_system free = absurd cc
kind_by false false false false false false false true no_directory no_system free = absurd cc
kind_by false false false false false false false false no_directory no_system free = refl

kind_is_file : (v : Volume) (n : ℕ) (r : Record) → is_directory_kind (kind_in v n r) ≡ false → is_system_kind (kind_in v n r) ≡ false → why_not r ≡ None → kind_in v n r ≡ kind.File
unfolding kind_in is_unread is_unchanged why_not why_by
kind_is_file v n r no_directory no_system free =
    kind_by (is_directory_record r) (is_system (files_by_number v) (count_of v) n (record_links n r)) (has_type attribute_list r) (has_type reparse_point r) (is_encrypted (data_flags r)) (is_compressed (data_flags r)) (is_sparse (data_flags r)) (has_sparse_run r)
    no_directory no_system free

node_named : (t : Bool) (x a : Node) → cond t None (Some x) ≡ Some a → x ≡ a
node_named true x a is = absurd cc
node_named false x a is = cc

record FileOf (c : Content) (v : Volume) (n : ℕ) (a : Node) : Type 0 where
  r : Record
  file : file_in v n ≡ Some r
  is : node_by (bytes_or c v.per) v n r ≡ a

file_by_node : (c : Content) (v : Volume) (n : ℕ) (a : Node) (o : Option Record) → file_in v n ≡ o → some_node (bytes_or c v.per) v n o ≡ Some a → FileOf c v n a
file_by_node c v n a None file is = absurd cc
file_by_node c v n a (Some r) file is = record { r = r; file = file; is = node_named (is_nameless n r) (node_by (bytes_or c v.per) v n r) a is }

file_of : (c : Content) (v : Volume) (n : ℕ) (a : Node) → node_by_number (tree_of c v).nodes n ≡ Some a → FileOf c v n a
unfolding node_at
file_of c v n a is = file_by_node c v n a (file_in v n) refl (sym (tree_nodes c v n) ∙ is)

kind_of_node : (c : Content) (v : Volume) (n : ℕ) (r : Record) → (node_by (bytes_or c v.per) v n r).kind ≡ kind_in v n r
unfolding node_by node_with
kind_of_node c v n r = refl

why_of_node : (c : Content) (v : Volume) (n : ℕ) (r : Record) → (node_by (bytes_or c v.per) v n r).why ≡ why_not r
unfolding node_by node_with
why_of_node c v n r = refl

system_kind : (nodes : List Node) (t : Tree) (a : Node) → is_directory_kind a.kind ≡ false → is_system_node nodes t.links a ≡ is_system_kind a.kind
unfolding is_system_node
system_kind nodes t a no_directory = rw no_directory refl

-- the three rows of the node
record Freed (t : Tree) (a : Node) : Type 0 where
  no_directory : is_directory_kind a.kind ≡ false
  no_system : is_system_kind a.kind ≡ false
  free : a.why ≡ None

three_none : (a b d : Option Reply) (rest : List (Option Reply)) → first_of (a ∷ b ∷ d ∷ rest) ≡ None → (a ≡ None) × (b ≡ None) × (d ≡ None)
three_none None None None rest none = (refl, refl, refl)
three_none None None (Some said) rest none = absurd cc
three_none None (Some said) d rest none = absurd cc
three_none (Some said) b d rest none = absurd cc

freed : (t : Tree) (o : Op) (a : Node) → first_of (change_rows t 0 [] o a) ≡ None → Freed t a
freed t o a none =
    let rows = three_none (where_so (is_directory_kind a.kind) reply.IsDirectory) (where_so (is_system_node t.nodes t.links a) reply.System) (fixed_bytes a.why) (cond (changes_file o a) (too_long o a ∷ no_space t (needed t 0 o a + reserve o a) ∷ []) []) none in
    let first = so_none (is_directory_kind a.kind) reply.IsDirectory rows.0 in
    let second = so_none (is_system_node t.nodes t.links a) reply.System rows.1 in
    record {
      no_directory = first;
      no_system = sym (system_kind t.nodes t a first) ∙ second;
      free = free_of a.why rows.2;
    }

kind_by_node : (c : Content) (v : Volume) (n : ℕ) (a : Node) (f : FileOf c v n a) → Freed (tree_of c v) a → a.kind ≡ kind.File
kind_by_node c v n a f k =
    let kinds : a.kind ≡ kind_in v n f.r = ap (λ (x : Node). x.kind) (sym f.is) ∙ kind_of_node c v n f.r in
    let whys : a.why ≡ why_not f.r = ap (λ (x : Node). x.why) (sym f.is) ∙ why_of_node c v n f.r in
    kinds ∙ kind_is_file v n f.r (ap is_directory_kind (sym kinds) ∙ k.no_directory) (ap is_system_kind (sym kinds) ∙ k.no_system) (sym whys ∙ k.free)

found_file : (c : Content) (v : Volume) (path : List (List ℕ)) (o : Op) (node : Node) (changes : Bool) → Reached (upper_of c v) (tree_of c v) path o node changes → IsFileFound c v o node changes
found_file c v path o node changes at =
    let t = tree_of c v in
    let there : node_by_number t.nodes node.number ≡ Some at.a =
    ap (λ (x : Node). node_by_number t.nodes x.number) at.bare ∙ node_there (upper_of c v) t path at.a at.walked in
    let f = file_of c v node.number at.a there in
    record {
      r = f.r;
      a = at.a;
      changeable = record { file = f.file; node = there; kind = kind_by_node c v node.number at.a f (freed t o at.a (change_rows_there (upper_of c v) t path o at.a at.walked at.none)) };
      bare = at.bare;
      same = at.same;
    }

-- ---- the place of a new file

record BaredPlace (walked : Result Node Reply) (least : Option FileRef) (directory : Node) (name named : List ℕ) (number : FileRef) : Type 0 where
  a : Node
  walked_is : walked ≡ Ok a
  bare : directory ≡ without_bytes a
  named_is : name ≡ named
  least_is : least ≡ Some number

least_by : (least : Option FileRef) (there directory : Node) (named name : List ℕ) (number : FileRef) → IsSomeAnd least (λ m. Place directory name number ≡ Place there named m) → (directory ≡ there) × (name ≡ named) × (least ≡ Some number)
least_by None there directory named name number found = absurd found
least_by (Some m) there directory named name number found = (
  (let e : directory ≡ there = cc in e),
  (let e : name ≡ named = cc in e),
  (let e : m ≡ number = cc in ap (λ (x : FileRef). Some x) e),
)

bared_place : (walked : Result Node Reply) (least : Option FileRef) (directory : Node) (name named : List ℕ) (number : FileRef) → IsOkAnd (bare_result walked) (λ there. IsSomeAnd least (λ m. Place directory name number ≡ Place there named m))
    → BaredPlace walked least directory name named number
bared_place (Ok a) least directory name named number found =
    let at = least_by least (without_bytes a) directory named name number found in
    record { a = a; walked_is = refl; bare = at.0; named_is = at.1; least_is = at.2 }
bared_place (Err r) least directory name named number found = absurd found

pub found_place : (c : Content) (v : Volume) (path : List (List ℕ)) (directory : Node) (name : List ℕ) (number : FileRef) → FindsPlace (upper_of c v) (tree_of c v) path (Place directory name number) → IsPlaceFound c v path directory name number
found_place c v path directory name number found =
    let t = tree_of c v in
    let at = bared_place (reached_directory (upper_of c v) t.nodes t.links (parent_path path)) (least_ref (numbers_to_take t)) directory name (new_name path) number found in
    let there = parted (upper_of c v) t (parent_path path) at.a at.walked_is in
    record {
      a = at.a;
      walked = at.walked_is;
      node = ap (λ (x : Node). node_by_number t.nodes x.number) at.bare ∙ node_there (upper_of c v) t (parent_path path) at.a there.found_is;
      is_directory = there.directory;
      bare = at.bare;
      named = at.named_is;
      least = at.least_is;
    }

-- ---- both

no_number_is : (least : Option FileRef) (directory : Node) (name : List ℕ) (node : Node) (changes : Bool) → IsSomeAnd least (λ number. File node changes ≡ Place directory name number) → ⊥
no_number_is None directory name node changes found = found
no_number_is (Some ref) directory name node changes found = cc

pub no_place_is_file : (walked : Result Node Reply) (least : Option FileRef) (name : List ℕ) (node : Node) (changes : Bool) → IsOkAnd (bare_result walked) (λ directory. IsSomeAnd least (λ number. File node changes ≡ Place directory name number)) → ⊥
no_place_is_file (Ok a) least name node changes found = no_number_is least (without_bytes a) name node changes found
no_place_is_file (Err r) least name node changes found = found

no_file_is_place : (walked : Result Node Reply) (o : Op) (directory : Node) (name : List ℕ) (number : FileRef) → IsOkAnd (bare_result walked) (λ node. Place directory name number ≡ File node (changes_file o node)) → ⊥
no_file_is_place (Ok a) o directory name number found = cc
no_file_is_place (Err r) o directory name number found = found

some_file : (c : Content) (g : Geometry) (clusters : ℕ) (v : Volume) (o : Op) (node : Node) (changes : Bool) → HasChange c g clusters v o → Finds c v o (File node changes) → IsFileFound c v o node changes
some_file c g clusters v (op.Create path) node changes has found = absurd (no_place_is_file (reached_directory (upper_of c v) (tree_of c v).nodes (tree_of c v).links (parent_path path)) (least_ref (numbers_to_take (tree_of c v))) (new_name path) node changes (file_by _ _ node changes found).1)
some_file c g clusters v (op.Write path offset bytes) node changes has found = found_file c v path (op.Write path offset bytes) node changes (reached_by (upper_of c v) (tree_of c v) path (op.Write path offset bytes) node changes (file_by _ _ node changes found))
some_file c g clusters v (op.Fill path offset count byte) node changes has found = found_file c v path (op.Fill path offset count byte) node changes (reached_by (upper_of c v) (tree_of c v) path (op.Fill path offset count byte) node changes (file_by _ _ node changes found))
some_file c g clusters v (op.Truncate path size) node changes has found = found_file c v path (op.Truncate path size) node changes (reached_by (upper_of c v) (tree_of c v) path (op.Truncate path size) node changes (file_by _ _ node changes found))
some_file c g clusters v other node changes has found = absurd (let e : false ≡ true = has.changes in cc)

some_place : (c : Content) (g : Geometry) (clusters : ℕ) (v : Volume) (o : Op) (directory : Node) (name : List ℕ) (number : FileRef) → HasChange c g clusters v o → Finds c v o (Place directory name number) → (path : List (List ℕ)) × (o ≡ op.Create path) × IsPlaceFound c v path directory name number
some_place c g clusters v (op.Create path) directory name number has found = (path, refl, found_place c v path directory name number (place_by _ _ directory name number found).1)
some_place c g clusters v (op.Write path offset bytes) directory name number has found = absurd (no_file_is_place (reached (upper_of c v) (tree_of c v).nodes (tree_of c v).links path) (op.Write path offset bytes) directory name number (place_by _ _ directory name number found).1)
some_place c g clusters v (op.Fill path offset count byte) directory name number has found = absurd (no_file_is_place (reached (upper_of c v) (tree_of c v).nodes (tree_of c v).links path) (op.Fill path offset count byte) directory name number (place_by _ _ directory name number found).1)
some_place c g clusters v (op.Truncate path size) directory name number has found = absurd (no_file_is_place (reached (upper_of c v) (tree_of c v).nodes (tree_of c v).links path) (op.Truncate path size) directory name number (place_by _ _ directory name number found).1)
some_place c g clusters v other directory name number has found = absurd (let e : false ≡ true = has.changes in cc)

pub found_is_there : FoundIsThere
found_is_there = record { file = some_file; place = some_place }
