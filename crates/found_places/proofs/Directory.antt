-- What a state says of the directory of a new file.
use Rattle.std.proofs.Common.{◌≡◌, ◌≢◌, ◌⊎◌, ℕ, zero, suc, ◌≤◌, ◌<◌, Bool, true, false, not, ◌&&◌, ◌||◌, cond, eqb, ltb, List, [], ◌∷◌, Option, Some, None, refl, sym, ap, ap₂, ◌∙◌, inl, inr}
use Rattle.std.specs.List.{list_any}
use Rattle.std.specs.Option.{option_or}
use Rattle.std.proofs.lemmas.Bool.{cases_eq, or_parts, ltb-false, ne_eqb}
use Rattle.disk_model.specs.Content.{Content}
use Rattle.record_model.specs.Constants.{attribute_list, reparse_point}
use Rattle.record_model.specs.Records.{Record}
use Rattle.file_tree.specs.declared.link.Link.{Link}
use Rattle.file_tree.specs.declared.node.Kind.TheVariants.{Directory, File, Fixed, Opaque, System}
use Rattle.file_tree.specs.declared.node.Node.{Node}
use Rattle.file_tree.specs.Trees.{node_at as node_by_number, is_directory_kind}
use Rattle.file_tree.specs.Walks.{root, first_user_record, at_some, passes_system}
use Rattle.state_model.specs.declared.geometry.Geometry.{Geometry}
use Rattle.state_model.specs.Files.{Table, links_at, file_links, record_links, is_directory_record, has_type, why_by}
use Rattle.state_model.specs.Rules.{at_file, implies, keeps_8}
use Rattle.state_model.specs.Trees.{first_parent, parent_at, leads, is_in_system, is_system, is_nameless}
use Rattle.volume_model.specs.Nodes.{data_flags, has_sparse_run, sparse_if, why_not, is_unread, is_unchanged, kind_in, some_node, node_at, node_by, node_with}
use Rattle.volume_model.specs.Volumes.{Volume, files_by_number, count_of, file_in, bytes_or}
use Rattle.volume_state.specs.Rules.{broken_8}
use Rattle.volume_state.specs.Trees.{tree_of, Holds}
use Rattle.stream_laws.proofs.Tabling.{inside_list}
use Rattle.tree_laws.proofs.Keeping.{passes_below, rules_of}
use Rattle.tree_laws.proofs.Shortening.{in_system_by}
use Rattle.tree_model.specs.Refusals.{is_system_node, fixed_names}
use Rattle.lookup_laws.specs.Files.{is_own_file}
use Rattle.lookup_laws.proofs.Climbing.{system_by_nodes}
use Rattle.plan_owners.specs.States.{Stands}
use Rattle.plan_owners.proofs.Standing.{some_file}
use Rattle.made_trees.proofs.plan_model.Stepping.{tree_nodes}

-- ---- its record

own_node : (t : Bool) (a b : Node) → cond t None (Some b) ≡ Some a → b ≡ a
own_node true a b is = absurd cc
own_node false a b is = cc

-- the record whose node it is
pub record IsNodeOf (c : Content) (v : Volume) (n : ℕ) (a : Node) : Type 0 where
  pub r : Record
  pub file : file_in v n ≡ Some r
  pub is : node_by (bytes_or c v.per) v n r ≡ a

node_of : (c : Content) (v : Volume) (n : ℕ) (a : Node) (o : Option Record) → file_in v n ≡ o → some_node (bytes_or c v.per) v n o ≡ Some a → IsNodeOf c v n a
node_of c v n a None file is = absurd cc
node_of c v n a (Some r) file is = record { r = r; file = file; is = own_node (is_nameless n r) a (node_by (bytes_or c v.per) v n r) is }

pub its_record : (c : Content) (v : Volume) (n : ℕ) (a : Node) → node_by_number (tree_of c v).nodes n ≡ Some a → IsNodeOf c v n a
unfolding node_at
its_record c v n a is = node_of c v n a (file_in v n) refl (sym (tree_nodes c v n) ∙ is)

pub number_of_node : (c : Content) (v : Volume) (n : ℕ) (r : Record) → (node_by (bytes_or c v.per) v n r).number ≡ n
unfolding node_by node_with
number_of_node c v n r = refl

pub seq_of_node : (c : Content) (v : Volume) (n : ℕ) (r : Record) → (node_by (bytes_or c v.per) v n r).seq ≡ r.head.seq
unfolding node_by node_with
seq_of_node c v n r = refl

kind_of_node : (c : Content) (v : Volume) (n : ℕ) (r : Record) → (node_by (bytes_or c v.per) v n r).kind ≡ kind_in v n r
unfolding node_by node_with
kind_of_node c v n r = refl

why_of_node : (c : Content) (v : Volume) (n : ℕ) (r : Record) → (node_by (bytes_or c v.per) v n r).why ≡ why_not r
unfolding node_by node_with
why_of_node c v n r = refl

-- ---- a directory without an attribute list

directory_by : (dir sys unread unchanged : Bool) → is_directory_kind (cond dir Directory (cond sys System (cond unread Opaque (cond unchanged Fixed File)))) ≡ true → dir ≡ true
directory_by true sys unread unchanged is = refl
directory_by false true unread unchanged is = absurd cc
directory_by false false true unchanged is = absurd cc
directory_by false false false true is = absurd cc
directory_by false false false false is = absurd cc

directory_of_kind : (v : Volume) (n : ℕ) (r : Record) → is_directory_kind (kind_in v n r) ≡ true → is_directory_record r ≡ true
unfolding kind_in
directory_of_kind v n r is = directory_by (is_directory_record r) (is_system (files_by_number v) (count_of v) n (record_links n r)) (is_unread r) (is_unchanged r) is

unlisted_by : (listed reparse hole : Bool) (flags : ℕ) → fixed_names (option_or (why_by listed reparse flags) (sparse_if hole)) ≡ None → listed ≡ false
unfolding why_by
unlisted_by true reparse hole flags is = absurd cc
unlisted_by false reparse hole flags is = refl

unlisted : (r : Record) → fixed_names (why_not r) ≡ None → has_type attribute_list r ≡ false
unfolding why_not
unlisted r is = unlisted_by (has_type attribute_list r) (has_type reparse_point r) (has_sparse_run r) (data_flags r) is

-- ---- above it is none of the volume's own

outside_root : (p : Table) (most : ℕ) → is_in_system p most root ≡ false
unfolding passes_system
outside_root p zero = refl
outside_root p (suc most) = refl

first_outside : (f : Link → Bool) (l : Link) (links : List Link) → list_any f (l ∷ links) ≡ false → f l ≡ false
first_outside f l links none = (or_parts (f l) (list_any f links) none).0

alone : (p : Table) (most n : ℕ) → parent_at p n ≡ None → ltb n first_user_record ≡ false → is_in_system p most n ≡ false
unfolding passes_system
alone p zero n none user = refl
alone p (suc most) n none user = ap₂ (λ (t : Bool) (o : Option ℕ). not (eqb n root) && (t || at_some (passes_system (parent_at p) most) o)) user none ∙ and_none (not (eqb n root))
  where
    and_none : (b : Bool) → (b && false) ≡ false
    and_none true = refl
    and_none false = refl

by_links : (p : Table) (count n : ℕ) (links : List Link) → links_at p n ≡ links → n ≢ root → leads p count n ≡ true → is_system p count n links ≡ false → is_in_system p count n ≡ false
unfolding parent_at is_system
by_links p count n [] own other reaches is = alone p count n (ap first_parent own) (or_parts (ltb n first_user_record) _ is).0
by_links p count n (l ∷ links) own other reaches is =
    let parts = or_parts (ltb n first_user_record) (list_any (λ (k : Link). is_in_system p count k.parent.number) (l ∷ links)) is in
    in_system_by p count n l.parent.number other (ap first_parent own) reaches
    ∙ ap₂ (λ (s t : Bool). s || t) parts.0 (first_outside (λ (k : Link). is_in_system p count k.parent.number) l links parts.1)

asked : (a b : Bool) → implies a b ≡ true → a ≡ true → b ≡ true
asked true b is a = is
asked false b is a = absurd cc

module _ (c : Content) (g : Geometry) (clusters : ℕ) (v : Volume) (n : ℕ) (r : Record) (state : Stands c g clusters v) (file : file_in v n ≡ Some r) (directory : is_directory_record r ≡ true) where
  within : n < count_of v
  within = inside_list v.files n r (some_file v n r file)

  reaches : leads (files_by_number v) (count_of v) n ≡ true
  unfolding broken_8 keeps_8
  reaches =
      let kept = passes_below (keeps_8 (files_by_number v) (count_of v)) (count_of v) (rules_of c v state.kept).rule_8 n within in
      asked (is_directory_record r) (leads (files_by_number v) (count_of v) n) (sym (ap (at_file (λ q. implies (is_directory_record q) (leads (files_by_number v) (count_of v) n))) file) ∙ kept) directory

  links_are : links_at (files_by_number v) n ≡ record_links n r
  unfolding links_at
  links_are = ap (file_links n) file

  -- it is the root, or a directory of a user
  pub record IsOutside : Type 0 where
    pub which : (n ≡ root) ⊎ (first_user_record ≤ n)
    pub outside : is_in_system (files_by_number v) (count_of v) n ≡ false

  own_by : (t : Bool) (system : Bool) → (not (is_directory_record r && t) && system) ≡ false → t ≡ false → system ≡ false
  own_by true system none other = absurd cc
  own_by false system none other = sym (ap (λ (d : Bool). not (d && false) && system) directory) ∙ none

  pub is_outside : is_own_file v n r ≡ false → IsOutside
  unfolding is_own_file is_system
  is_outside none = elim (cases_eq n root) [
    | inl is ↦ record { which = inl is; outside = ap (is_in_system (files_by_number v) (count_of v)) is ∙ outside_root (files_by_number v) (count_of v) }
    | inr other ↦
        (let system = own_by (eqb n root) (is_system (files_by_number v) (count_of v) n (record_links n r)) none (ne_eqb n root other) in
        record {
          which = inr (ltb-false n first_user_record (or_parts (ltb n first_user_record) _ system).0);
          outside = by_links (files_by_number v) (count_of v) n (record_links n r) links_are other reaches system;
        })
  ]

-- ---- all of it

-- the directory of a new file: its record and its place
pub record IsDirectoryThere (c : Content) (v : Volume) (n : ℕ) (a : Node) : Type 0 where
  pub r : Record
  pub file : file_in v n ≡ Some r
  pub number : a.number ≡ n
  pub seq : a.seq ≡ r.head.seq
  pub directory : is_directory_record r ≡ true
  pub no_list : has_type attribute_list r ≡ false
  pub which : (n ≡ root) ⊎ (first_user_record ≤ n)
  pub outside : is_in_system (files_by_number v) (count_of v) n ≡ false

pub directory_there : (c : Content) (g : Geometry) (clusters : ℕ) (v : Volume) (n : ℕ) (a : Node) → Stands c g clusters v → node_by_number (tree_of c v).nodes n ≡ Some a → is_directory_kind a.kind ≡ true → is_system_node (tree_of c v).nodes (tree_of c v).links a ≡ false → fixed_names a.why ≡ None
    → IsDirectoryThere c v n a
directory_there c g clusters v n a state node kind system unfixed =
    let f = its_record c v n a node in
    let r = f.r in
    let kind_is : a.kind ≡ kind_in v n r = ap (λ (x : Node). x.kind) (sym f.is) ∙ kind_of_node c v n r in
    let why_is : a.why ≡ why_not r = ap (λ (x : Node). x.why) (sym f.is) ∙ why_of_node c v n r in
    let directory : is_directory_record r ≡ true = directory_of_kind v n r (sym (ap is_directory_kind kind_is) ∙ kind) in
    let holds : Holds c v (tree_of c v) = record { kept = state.kept; tree = refl } in
    let own : is_own_file v n r ≡ false = sym (system_by_nodes (bytes_or c v.per) c v (tree_of c v) n r holds f.file) ∙ ap (is_system_node (tree_of c v).nodes (tree_of c v).links) f.is ∙ system in
    let out = is_outside c g clusters v n r state f.file directory own in
    record {
      r = r;
      file = f.file;
      number = ap (λ (x : Node). x.number) (sym f.is) ∙ number_of_node c v n r;
      seq = ap (λ (x : Node). x.seq) (sym f.is) ∙ seq_of_node c v n r;
      directory = directory;
      no_list = unlisted r (sym (ap fixed_names why_is) ∙ unfixed);
      which = out.which;
      outside = out.outside;
    }
