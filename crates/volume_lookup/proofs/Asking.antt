-- The tree of a volume that is asked, its nodes and its directories.
use Rattle.std.proofs.Common.{◌≡◌, ℕ, Bool, true, false, cond, List, Option, Some, None, refl, sym, ap, ◌∙◌}
use Rattle.std.specs.Prelude.{IfSome, if◌then◌else◌}
use Rattle.std.specs.Option.{option_map}
use Rattle.std.specs.Cmp.Lexicographic.{bytes_decides}
use Rattle.std.proofs.lemmas.Bool.{and_parts}
use Rattle.disk_model.specs.Content.{Content}
use Rattle.volume_tree.specs.record_model.Records.{Record}
use Rattle.file_tree.specs.declared.node.Kind.TheVariants.{Directory, File, Fixed, Opaque, System}
use Rattle.file_tree.specs.declared.node.Node.{Node}
use Rattle.file_tree.specs.declared.tree.Tree.{Tree}
use Rattle.file_tree.specs.Names.{same_units}
use Rattle.file_tree.specs.Trees.{node_at as node_by_number, is_directory_kind, is_directory_node, is_directory, without_bytes}
use Rattle.record_rules.specs.state_model.declared.broken.Broken.{Broken}
use Rattle.record_rules.specs.state_model.declared.stream.Stream.{Stream}
use Rattle.record_rules.specs.state_model.Files.{is_directory_record}
use Rattle.record_rules.specs.state_model.Trees.{is_nameless, all_links}
use Rattle.volume_tree.specs.volume_model.Volumes.{Volume, files_by_number, count_of, file_in, upper_of, bytes_or}
use Rattle.volume_tree.specs.volume_model.Nodes.{no_bytes, kind_in, node_with, node_by, some_node, node_at, all_nodes}
use Rattle.volume_tree.specs.volume_state.Rules.{first_broken}
use Rattle.volume_tree.specs.volume_state.Trees.{tree_with, tree_of}
use Rattle.lookup_laws.proofs.tree_laws.Numbering.{found_by_number}
use Rattle.tree_lookup.specs.Asked.{bare_at}
use Rattle.volume_lookup.specs.Known.{is_unbroken, is_asked_so, known_tree}

-- ---- where the tree is known

pub record IsAsked (upper : List ℕ) (v : Volume) (c : Content) : Type 0 where
  pub unbroken : first_broken c v ≡ None
  pub table : upper ≡ upper_of c v

unbroken_is : (o : Option Broken) → is_unbroken o ≡ true → o ≡ None
unbroken_is None is = refl
unbroken_is (Some broken) is = absurd cc

asked_parts : (upper : List ℕ) (v : Volume) (c : Content) → is_asked_so upper v c ≡ true → IsAsked upper v c
unfolding is_asked_so
asked_parts upper v c is =
    let parts = and_parts (is_unbroken (first_broken c v)) (same_units upper (upper_of c v)) is in
    record { unbroken = unbroken_is (first_broken c v) parts.0; table = (bytes_decides upper (upper_of c v)).0 parts.1 }

asked_so : (upper : List ℕ) (v : Volume) (c : Content) → first_broken c v ≡ None → upper ≡ upper_of c v → is_asked_so upper v c ≡ true
unfolding is_asked_so
asked_so upper v c none table = rw none ((bytes_decides upper (upper_of c v)).1 table)

tree_is_known : (upper : List ℕ) (v : Volume) (c : Content) → first_broken c v ≡ None → upper ≡ upper_of c v → known_tree upper v (Some c) ≡ Some (tree_of c v)
tree_is_known upper v c none table = ap (λ (t : Bool). cond t (Some (tree_of c v)) None) (asked_so upper v c none table)

pub known_where : (known : Option Content) (upper : List ℕ) (v : Volume) → IfSome known (λ c. first_broken c v ≡ None → upper ≡ upper_of c v → known_tree upper v known ≡ Some (tree_of c v))
known_where None upper v = tt
known_where (Some c) upper v = tree_is_known upper v c

in_choice : (t : Bool) (tree : Tree) (D P : Tree → Type 0) → (t ≡ true → D tree → P tree) → IfSome (if t then Some tree else None) D → IfSome (if t then Some tree else None) P
in_choice true tree D P f d = f refl d
in_choice false tree D P f d = tt

-- what follows for the tree of a known content from a fact about the content and one about the tree
pub of_tree : (known : Option Content) (upper : List ℕ) (v : Volume) (Q : Content → Type 0) (D P : Tree → Type 0) → ((c : Content) → IsAsked upper v c → Q c → D (tree_of c v) → P (tree_of c v))
    → IfSome known Q → IfSome (known_tree upper v known) D → IfSome (known_tree upper v known) P
of_tree None upper v Q D P f q d = tt
of_tree (Some c) upper v Q D P f q d = in_choice (is_asked_so upper v c) (tree_of c v) D P (λ is. f c (asked_parts upper v c is) q) d

any_choice : (t : Bool) (tree : Tree) (P : Tree → Type 0) → (t ≡ true → P tree) → IfSome (if t then Some tree else None) P
any_choice true tree P f = f refl
any_choice false tree P f = tt

-- what holds of the tree of each content
pub of_each : (known : Option Content) (upper : List ℕ) (v : Volume) (P : Tree → Type 0) → ((c : Content) → P (tree_of c v)) → IfSome (known_tree upper v known) P
of_each None upper v P f = tt
of_each (Some c) upper v P f = any_choice (is_asked_so upper v c) (tree_of c v) P (λ is. f c)

any_known : (t : Bool) (tree : Tree) → IfSome (if t then Some tree else None) (λ x. ℕ)
any_known true tree = 0
any_known false tree = tt

pub anything : (known : Option Content) (upper : List ℕ) (v : Volume) → IfSome (known_tree upper v known) (λ t. ℕ)
anything None upper v = tt
anything (Some c) upper v = any_known (is_asked_so upper v c) (tree_of c v)

-- ---- nodes

bare_node : (bytes : Option Stream → List ℕ) (v : Volume) (n : ℕ) (r : Record) → node_by no_bytes v n r ≡ without_bytes (node_by bytes v n r)
unfolding node_by node_with
bare_node bytes v n r = refl

bare_choice : (nameless : Bool) (a b : Node) → a ≡ without_bytes b → (if nameless then None else Some a) ≡ option_map without_bytes (if nameless then None else Some b)
bare_choice true a b is = refl
bare_choice false a b is = ap (λ (x : Node). Some x) is

bare_some : (bytes : Option Stream → List ℕ) (v : Volume) (n : ℕ) (file : Option Record) → some_node no_bytes v n file ≡ option_map without_bytes (some_node bytes v n file)
bare_some bytes v n None = refl
bare_some bytes v n (Some r) = bare_choice (is_nameless n r) (node_by no_bytes v n r) (node_by bytes v n r) (bare_node bytes v n r)

tree_nodes : (c : Content) (v : Volume) → (tree_of c v).nodes ≡ all_nodes c v
unfolding tree_of tree_with
tree_nodes c v = refl

pub tree_links : (c : Content) (v : Volume) → (tree_of c v).links ≡ all_links (files_by_number v) (count_of v)
unfolding tree_of tree_with
tree_links c v = refl

pub found_in_tree : (c : Content) (v : Volume) (n : ℕ) → node_by_number (tree_of c v).nodes n ≡ some_node (bytes_or c v.per) v n (file_in v n)
unfolding node_at
found_in_tree c v n = ap (λ (nodes : List Node). node_by_number nodes n) (tree_nodes c v) ∙ found_by_number (bytes_or c v.per) v n

-- the node without bytes is that of the tree
pub bare_in_tree : (c : Content) (v : Volume) (n : ℕ) → bare_at (tree_of c v).nodes n ≡ node_at no_bytes v n
unfolding bare_at node_at
bare_in_tree c v n = ap (option_map without_bytes) (found_in_tree c v n) ∙ sym (bare_some (bytes_or c v.per) v n (file_in v n))

-- ---- directories

by_kind : (a b d e : Bool) → is_directory_kind (if a then Directory else if b then System else if d then Opaque else if e then Fixed else File) ≡ true → a ≡ true
by_kind true b d e is = refl
by_kind false true d e is = absurd cc
by_kind false false true e is = absurd cc
by_kind false false false true is = absurd cc
by_kind false false false false is = absurd cc

kind_of_record : (v : Volume) (n : ℕ) (r : Record) → is_directory_kind (kind_in v n r) ≡ true → is_directory_record r ≡ true
unfolding kind_in
kind_of_record v n r is = by_kind (is_directory_record r) _ _ _ is

node_kind : (bytes : Option Stream → List ℕ) (v : Volume) (n : ℕ) (r : Record) → (node_by bytes v n r).kind ≡ kind_in v n r
unfolding node_by node_with
node_kind bytes v n r = refl

named_kind : (nameless : Bool) (node : Node) → is_directory_node (if nameless then None else Some node) ≡ true → is_directory_kind node.kind ≡ true
named_kind true node is = absurd cc
named_kind false node is = is

-- a file that is a directory
pub record IsDirectoryFile (v : Volume) (n : ℕ) : Type 0 where
  pub record_of : Record
  pub there : file_in v n ≡ Some record_of
  pub directory : is_directory_record record_of ≡ true

from_file : (bytes : Option Stream → List ℕ) (v : Volume) (n : ℕ) (o : Option Record) → file_in v n ≡ o → is_directory_node (some_node bytes v n o) ≡ true → IsDirectoryFile v n
from_file bytes v n None same is = absurd cc
from_file bytes v n (Some r) same is = record {
  record_of = r;
  there = same;
  directory = kind_of_record v n r (sym (ap is_directory_kind (node_kind bytes v n r)) ∙ named_kind (is_nameless n r) (node_by bytes v n r) is);
}

pub directory_file : (c : Content) (v : Volume) (n : ℕ) → is_directory (tree_of c v).nodes n ≡ true → IsDirectoryFile v n
unfolding is_directory
directory_file c v n is = from_file (bytes_or c v.per) v n (file_in v n) refl (sym (ap is_directory_node (found_in_tree c v n)) ∙ is)
