-- A climb over the nodes and names of a tree says which files are those of the volume itself.
use mathlib.Core.Path.{fun_ext}
use Rattle.std.proofs.Common.{◌≡◌, ◌≢◌, ◌⊎◌, ℕ, zero, suc, ◌+◌, ◌<◌, ◌≤◌, Bool, true, false, not, cond, ◌&&◌, ◌||◌, eqb, leb, ltb, List, [], ◌∷◌, map, length, find, Option, Some, None, refl, sym, ap, ap₂, subst, ◌∙◌, inl, inr, arith}
use Rattle.std.specs.Prelude.{count_by}
use Rattle.std.specs.List.{filter, list_all, list_any, AllByRecursion}
use Rattle.std.proofs.lemmas.Bool.{cases_Bool, cases_lt, and_parts, both_ways, or_left, or_right, eqb-true, eqb-false, ne_eqb, lt-ltb, le-leb, le-ltb}
use Rattle.std.proofs.lemmas.List.Sums.{length-filter}
use Rattle.std.proofs.Math.ListN.{length-map}
use Rattle.host_base.specs.declared.file_ref.FileRef.{FileRef}
use Rattle.host_base.specs.FileRefs.{same_reference}
use Rattle.disk_model.specs.Content.{Content}
use Rattle.tree_laws.specs.record_model.Records.{Record}
use Rattle.file_tree.specs.declared.link.Link.{Link}
use Rattle.file_tree.specs.declared.node.Kind.{Kind}
use Rattle.file_tree.specs.declared.node.Kind.TheVariants.{Directory, File, Fixed, Opaque, System}
use Rattle.file_tree.specs.declared.node.Node.{Node}
use Rattle.file_tree.specs.declared.tree.Tree.{Tree}
use Rattle.file_tree.specs.Trees.{node_at as node_by_number, has_number, is_directory_kind, is_long, is_short}
use Rattle.file_tree.specs.Walks.{root, at_some, first_user_record, passes_system}
use Rattle.tree_model.specs.Refusals.{parent_of, is_system_kind, is_system_node}
use Rattle.tree_model.specs.Refusals as tree
use Rattle.tree_laws.specs.state_model.declared.stream.Stream.{Stream}
use Rattle.tree_laws.specs.state_model.Files.{Table, file_at, file_links, links_at, record_links, is_directory_record, has_type}
use Rattle.tree_laws.specs.state_model.Loads.{table_in}
use Rattle.tree_laws.specs.state_model.Rules.{implies, at_file, is_partner, has_partner, long_count, keeps_names, keeps_1, keeps_8}
use Rattle.tree_laws.specs.state_model.Trees.{first_parent, parent_at, leads, is_in_system, is_system, is_nameless, all_links}
use Rattle.tree_laws.specs.volume_model.Volumes.{Volume, files_by_number, count_of, file_in, bytes_or}
use Rattle.tree_laws.specs.volume_model.Nodes.{is_unread, is_unchanged, kind_in, node_with, node_by, some_node, node_at, nodes_by}
use Rattle.tree_laws.specs.volume_state.Rules.{broken_1, broken_8}
use Rattle.tree_laws.specs.volume_state.Trees.{Holds, tree_with, tree_of}
use Rattle.tree_laws.proofs.Keeping.{passes_below, rules_of}
use Rattle.tree_laws.proofs.Naming.{no_file}
use Rattle.tree_laws.proofs.Numbering.{found_by_number}
use Rattle.tree_laws.proofs.Shortening.{more_steps, steady, in_system_by}
use Rattle.tree_laws.proofs.Standing.{every_one}
use Rattle.lookup_laws.specs.Files.{is_own_file}
use Rattle.lookup_laws.proofs.Among.{Among, Apart, every_among, from_among, fewer, among_passing, found_among}
use Rattle.lookup_laws.proofs.Owning.{own_parent}

-- ---- the way up passes no file twice

module _ (p : Table) where
  -- the root is so many steps away, and no fewer
  record IsAway (k m : ℕ) : Type 0 where
    reaches : leads p k m ≡ true
    no_sooner : (j : ℕ) → j < k → leads p j m ≡ false

  away : (most m : ℕ) → leads p most m ≡ true → (k : ℕ) × (k ≤ most) × IsAway k m
  away zero m is = (zero, omega arith, record { reaches = is; no_sooner = λ j less. absurd (omega (arith, less)) })
  away (suc most) m is = elim (cases_Bool (leads p most m)) [
    | inl sooner ↦ (let rest = away most m sooner in (rest.0, (let le = rest.1 in omega (arith, le)), rest.2))
    | inr later ↦ (
      suc most,
      omega arith,
      record {
        reaches = is;
        no_sooner = λ j less. elim (cases_Bool (leads p j m)) [
          | inl there ↦ absurd (both_ways (leads p most m) later (more_steps p j most m (omega (arith, less)) there))
          | inr none ↦ none
        ];
      },
    )
  ]

  next_up : (k m : ℕ) (o : Option ℕ) → parent_at p m ≡ o → IsAway (suc k) m → (d : ℕ) × (o ≡ Some d) × IsAway k d
  unfolding leads
  next_up k m None is far = absurd (both_ways (leads p (suc k) m) (ap (λ (t : Bool). t || at_some (leads p k) (parent_at p m)) (far.no_sooner 0 (omega arith)) ∙ ap (at_some (leads p k)) is) far.reaches)
  next_up k m (Some d) is far =
      let not_root : eqb m root ≡ false = far.no_sooner 0 (omega arith) in
      let up : (j : ℕ) → leads p (suc j) m ≡ leads p j d = λ j. ap (λ (t : Bool). t || at_some (leads p j) (parent_at p m)) not_root ∙ ap (at_some (leads p j)) is in
      (d, refl, record { reaches = sym (up k) ∙ far.reaches; no_sooner = λ j less. sym (up j) ∙ far.no_sooner (suc j) (omega (arith, less)) })

  -- a file on a way of so many steps: it is at most so far away, and has a name
  record IsOnWay (k m : ℕ) : Type 0 where
    far : ℕ
    few : far ≤ k
    is_away : IsAway far m
    up : ℕ
    parent : parent_at p m ≡ Some up

  -- the files on a way
  record IsWay (k : ℕ) (files : List ℕ) : Type 0 where
    size : length files ≡ k
    apart : Apart files
    each : AllByRecursion (IsOnWay k) files

  farther : (k : ℕ) (files : List ℕ) → AllByRecursion (IsOnWay k) files → AllByRecursion (IsOnWay (suc k)) files
  farther k [] each = tt
  farther k (x ∷ files) each = (record { far = each.0.far; few = (let le = each.0.few in omega (arith, le)); is_away = each.0.is_away; up = each.0.up; parent = each.0.parent }, farther k files each.1)

  not_again : (k m : ℕ) → IsAway (suc k) m → (files : List ℕ) → AllByRecursion (IsOnWay k) files → Among m files → ⊥
  not_again k m far files each there =
      let on = every_among (IsOnWay k) m files each there in
      let le = on.few in
      both_ways (leads p on.far m) (far.no_sooner on.far (omega (arith, le))) on.is_away.reaches

  way_of : (k m : ℕ) → IsAway k m → (files : List ℕ) × IsWay k files
  way_of zero m far = ([], record { size = refl; apart = tt; each = tt })
  way_of (suc k) m far =
      let next = next_up k m (parent_at p m) refl far in
      let rest = way_of k next.0 next.2 in
      let size = rest.1.size in (
        m ∷ rest.0,
        record {
          size = omega (arith, size);
          apart = (not_again k m far rest.0 rest.1.each, rest.1.apart);
          each = (record { far = suc k; few = omega arith; is_away = far; up = next.0; parent = next.1 }, farther k rest.0 rest.1.each);
        },
      )

  -- where each file that has a name is among these, the root is reached within as many steps as these are
  leads_within : (numbers : List ℕ) → ((m d : ℕ) → parent_at p m ≡ Some d → Among m numbers) → (most m : ℕ) → leads p most m ≡ true → leads p (length numbers) m ≡ true
  leads_within numbers named most m is =
      let far = away most m is in
      let way = way_of far.0 m far.2 in
      let inside = from_among (λ x. Among x numbers) way.0 (λ x there. (let on = every_among (IsOnWay far.0) x way.0 way.1.each there in named x on.up on.parent)) in
      let few = fewer way.0 numbers way.1.apart inside in
      let size = way.1.size in
      more_steps p far.0 (length numbers) m (omega (arith, few, size)) far.2.reaches

-- ---- each file that has a name is a node

among_map : (x : Node) (nodes : List Node) → Among x nodes → Among x.number (map (λ (y : Node). y.number) nodes)
among_map x [] there = absurd there
among_map x (y ∷ nodes) (inl same) = inl (ap (λ (z : Node). z.number) same)
among_map x (y ∷ nodes) (inr later) = inr (among_map x nodes later)

number_among : (nodes : List Node) (m : ℕ) (x : Node) → node_by_number nodes m ≡ Some x → Among m (map (λ (y : Node). y.number) nodes)
unfolding node_by_number
number_among nodes m x is =
    let both = found_among (has_number m) x nodes is in
    subst (λ (k : ℕ). Among k (map (λ (y : Node). y.number) nodes)) (eqb-true x.number m both.1) (among_map x nodes both.0)

some_named : (m d : ℕ) (o : Option Record) → first_parent (file_links m o) ≡ Some d → (r : Record) × (o ≡ Some r) × (eqb (length (record_links m r)) 0 ≡ false)
some_named m d None is = absurd cc
some_named m d (Some r) is = (r, refl, long (record_links m r) is)
  where
    long : (links : List Link) → first_parent links ≡ Some d → eqb (length links) 0 ≡ false
    long [] same = absurd cc
    long (l ∷ links) same = ne_eqb (length (l ∷ links)) 0 (λ equal. omega (arith, equal))

node_named : (bytes : Option Stream → List ℕ) (v : Volume) (m d : ℕ) → parent_at (files_by_number v) m ≡ Some d → (x : Node) × (node_at bytes v m ≡ Some x)
unfolding parent_at links_at node_at
node_named bytes v m d is =
    let named = some_named m d (file_in v m) is in
    let r = named.0 in (
      node_by bytes v m r,
      ap (some_node bytes v m) named.1 ∙ ap (λ (t : Bool). cond t None (Some (node_by bytes v m r))) (neither (ltb m first_user_record) (eqb (length (record_links m r)) 0) named.2),
    )
  where
    neither : (a b : Bool) → b ≡ false → (a && b) ≡ false
    neither true b none = none
    neither false b none = refl

-- ---- the climb over names

same_climb : (files : List (Option Record)) (most m : ℕ) → tree.is_in_system (all_links (table_in files) (length files)) most m ≡ is_in_system (table_in files) most m
same_climb files most m = ap (λ (parent : ℕ → Option ℕ). passes_system parent most m) (fun_ext (own_parent files))

-- as many steps as there are nodes are enough
same_fuel : (bytes : Option Stream → List ℕ) (v : Volume) (n : ℕ) → leads (files_by_number v) (count_of v) n ≡ true → is_in_system (files_by_number v) (length (nodes_by bytes v)) n ≡ is_in_system (files_by_number v) (count_of v) n
same_fuel bytes v n is =
    let p = files_by_number v in
    let nodes = nodes_by bytes v in
    let numbers = map (λ (y : Node). y.number) nodes in
    let within = leads_within p numbers (λ m d named. (let node = node_named bytes v m d named in number_among nodes m node.0 (found_by_number bytes v m ∙ node.1))) (count_of v) n is in
    let size : length numbers ≡ length nodes = length-map nodes (λ (y : Node). y.number) in
    let few : leads p (length nodes) n ≡ true = ap (λ (k : ℕ). leads p k n) (sym size) ∙ within in
    let more = count_of v + length nodes in
    sym (steady p (length nodes) more n (omega arith) few) ∙ steady p (count_of v) more n (omega arith) is

-- ---- the names of a directory stand in one directory

one_long : (links : List Link) → length links ≡ 1 → (l : Link) × (links ≡ l ∷ [])
one_long [] is = absurd (omega (arith, is))
one_long (l ∷ []) is = (l, refl)
one_long (l ∷ k ∷ links) is = absurd (omega (arith, is))

of_one : (l k : Link) (links : List Link) → links ≡ k ∷ [] → Among l links → k ≡ l
of_one l k links same there = only (subst (Among l) same there)
  where
    only : Among l (k ∷ []) → k ≡ l
    only (inl is) = is
    only (inr none) = absurd none

any_link : (f : Link → Bool) (links : List Link) → list_any f links ≡ true → (l : Link) × (Among l links) × (f l ≡ true)
any_link f [] is = absurd cc
any_link f (l ∷ links) is = elim (cases_Bool (f l)) [
  | inl passes ↦ (l, inl refl, passes)
  | inr fails ↦ (let rest = any_link f links (sym (ap (λ (t : Bool). t || list_any f links) fails) ∙ is) in (rest.0, inr rest.1, rest.2))
]

partner_long : (short l : Link) → is_partner short l ≡ true → (is_long l ≡ true) × (l.parent.number ≡ short.parent.number)
partner_long short l is =
    let parts = and_parts (eqb l.space 1) (same_reference l.parent short.parent) is in
    let number = and_parts (eqb l.parent.number short.parent.number) (eqb l.parent.seq short.parent.seq) parts.1 in
    (ap (λ (k : ℕ). not (eqb k 2)) (eqb-true l.space 1 parts.0), eqb-true l.parent.number short.parent.number number.0)

asked : (t b : Bool) → implies t b ≡ true → t ≡ true → b ≡ true
asked true b is holds = is
asked false b is holds = absurd cc

module _ (links : List Link) (w : Link) (one : filter is_long links ≡ w ∷ []) (partners : list_all (has_partner links) links ≡ true) where
  long_there : (l : Link) → Among l links → is_long l ≡ true → l.parent.number ≡ w.parent.number
  long_there l there long = ap (λ (k : Link). k.parent.number) (sym (of_one l w (filter is_long links) one (among_passing is_long l links there long)))

  there_by : (l : Link) → Among l links → (t : Bool) → is_short l ≡ t → l.parent.number ≡ w.parent.number
  unfolding has_partner
  there_by l there false is = long_there l there (ap not is)
  there_by l there true is =
      let partner = any_link (is_partner l) links (asked (is_short l) (list_any (is_partner l) links) (every_among (λ k. has_partner links k ≡ true) l links (every_one (has_partner links) links partners) there) is) in
      let both = partner_long l partner.0 partner.2 in
      sym both.1 ∙ long_there partner.0 partner.1 both.0

  all_there : (l : Link) → Among l links → l.parent.number ≡ w.parent.number
  all_there l there = there_by l there (is_short l) refl

-- what is the same at all of some links holds of any of them
any_same : (f : ℕ → Bool) (d : ℕ) (l : Link) (links : List Link) → AllByRecursion (λ k. k.parent.number ≡ d) (l ∷ links) → list_any (λ (k : Link). f k.parent.number) (l ∷ links) ≡ f d
any_same f d l [] all = or_none (f l.parent.number) ∙ ap f all.0
  where
    or_none : (a : Bool) → (a || false) ≡ a
    or_none true = refl
    or_none false = refl
any_same f d l (k ∷ links) all = ap₂ (λ (a b : Bool). a || b) (ap f all.0) (any_same f d k links all.1) ∙ or_same (f d)
  where
    or_same : (a : Bool) → (a || a) ≡ a
    or_same true = refl
    or_same false = refl

-- ---- a directory

record OfDirectory (n : ℕ) (links : List Link) : Type 0 where
  named : leb first_user_record n ≡ true → leb 1 (long_count links) ≡ true
  one : eqb (long_count links) 1 ≡ true
  partners : list_all (has_partner links) links ≡ true

of_directory : (n : ℕ) (r : Record) (links : List Link) → keeps_names n r links ≡ true → is_directory_record r ≡ true → OfDirectory n links
unfolding keeps_names
of_directory n r links kept is =
    let a = and_parts _ _ kept in
    let b = and_parts _ _ a.0 in
    let d = and_parts _ _ b.0 in
    let e = and_parts _ _ d.0 in
    record { named = asked (leb first_user_record n) (leb 1 (long_count links)) e.0; one = asked (is_directory_record r) (eqb (long_count links) 1) e.1 is; partners = b.1 }

module _ (p : Table) (count n : ℕ) (links : List Link) (own : links_at p n ≡ links) (other : n ≢ root) (reaches : leads p count n ≡ true) where
  by_parent : (d : ℕ) → AllByRecursion (λ l. l.parent.number ≡ d) links → first_parent links ≡ Some d → (l : Link) (rest : List Link) → links ≡ l ∷ rest → is_in_system p count n ≡ is_system p count n links
  unfolding is_system parent_at
  by_parent d all first l rest same =
      in_system_by p count n d other (ap first_parent own ∙ first) reaches
      ∙ ap (λ (t : Bool). ltb n first_user_record || t)
      (sym (ap (list_any (λ (k : Link). is_in_system p count k.parent.number)) same ∙ any_same (is_in_system p count) d l rest (subst (AllByRecursion (λ k. k.parent.number ≡ d)) same all)))

system_of_directory : (p : Table) (count n : ℕ) (links : List Link) → links_at p n ≡ links → n ≢ root → leads p count n ≡ true → OfDirectory n links → is_in_system p count n ≡ is_system p count n links
system_of_directory p count n [] own other reaches said = absurd (none said.one)
  where
    none : eqb 0 1 ≡ true → ⊥
    none is = cc
system_of_directory p count n (l ∷ links) own other reaches said =
    let long = one_long (filter is_long (l ∷ links)) (length-filter is_long (l ∷ links) ∙ eqb-true (long_count (l ∷ links)) 1 said.one) in
    let there = all_there (l ∷ links) long.0 long.1 said.partners in
    let d = long.0.parent.number in
    by_parent p count n (l ∷ links) own other reaches d (from_among (λ k. k.parent.number ≡ d) (l ∷ links) there) (ap Some (there l (inl refl))) l links refl

-- ---- nodes

kind_by : (directory system unread unchanged : Bool) → Kind
kind_by directory system unread unchanged = cond directory Directory (cond system System (cond unread Opaque (cond unchanged Fixed File)))

directory_kind : (directory system unread unchanged : Bool) → is_directory_kind (kind_by directory system unread unchanged) ≡ directory
unfolding kind_by
directory_kind true system unread unchanged = refl
directory_kind false true unread unchanged = refl
directory_kind false false true unchanged = refl
directory_kind false false false true = refl
directory_kind false false false false = refl

system_kind : (system unread unchanged : Bool) → is_system_kind (kind_by false system unread unchanged) ≡ system
unfolding kind_by
system_kind true unread unchanged = refl
system_kind false true unchanged = refl
system_kind false false true = refl
system_kind false false false = refl

kind_is : (v : Volume) (n : ℕ) (r : Record) → kind_in v n r ≡ kind_by (is_directory_record r) (is_system (files_by_number v) (count_of v) n (record_links n r)) (is_unread r) (is_unchanged r)
unfolding kind_in kind_by
kind_is v n r = refl

node_kind : (bytes : Option Stream → List ℕ) (v : Volume) (n : ℕ) (r : Record) → (node_by bytes v n r).kind ≡ kind_in v n r
unfolding node_by node_with
node_kind bytes v n r = refl

node_number : (bytes : Option Stream → List ℕ) (v : Volume) (n : ℕ) (r : Record) → (node_by bytes v n r).number ≡ n
unfolding node_by node_with
node_number bytes v n r = refl

root_outside : (links : List Link) (most : ℕ) → tree.is_in_system links most root ≡ false
unfolding passes_system
root_outside links zero = refl
root_outside links (suc most) = refl

-- rules 1 and 8 at a directory
kept_1 : (v : Volume) (n : ℕ) (r : Record) → broken_1 v ≡ None → file_in v n ≡ Some r → n < count_of v → keeps_names n r (record_links n r) ≡ true
unfolding broken_1 keeps_1
kept_1 v n r none is below = sym (ap (at_file (λ k. keeps_names n k (record_links n k))) is) ∙ passes_below (keeps_1 (files_by_number v)) (count_of v) none n below

kept_8 : (v : Volume) (n : ℕ) (r : Record) → broken_8 v ≡ None → file_in v n ≡ Some r → n < count_of v → is_directory_record r ≡ true → leads (files_by_number v) (count_of v) n ≡ true
unfolding broken_8 keeps_8
kept_8 v n r none is below directory =
    asked (is_directory_record r) (leads (files_by_number v) (count_of v) n)
    (sym (ap (at_file (λ k. implies (is_directory_record k) (leads (files_by_number v) (count_of v) n))) is) ∙ passes_below (keeps_8 (files_by_number v) (count_of v)) (count_of v) none n below) directory

file_below : (v : Volume) (n : ℕ) (r : Record) → file_in v n ≡ Some r → n < count_of v
file_below v n r is = elim (cases_lt n (count_of v)) [
  | inl less ↦ less
  | inr past ↦ (let none : None ≡ Some r = sym (no_file v.files n past) ∙ is in absurd cc)
]

own_links : (v : Volume) (n : ℕ) (r : Record) → file_in v n ≡ Some r → links_at (files_by_number v) n ≡ record_links n r
unfolding links_at
own_links v n r is = ap (file_links n) is

module _ (c : Content) (v : Volume) (n : ℕ) (r : Record) (is : file_in v n ≡ Some r) where
  climbed : Holds c v (tree_of c v) → is_directory_record r ≡ true → n ≢ root → tree.is_in_system (tree_of c v).links (length (tree_of c v).nodes) n ≡ is_system (files_by_number v) (count_of v) n (record_links n r)
  unfolding tree_of tree_with
  climbed holds directory other =
      let rules = rules_of c v holds.kept in
      let below = file_below v n r is in
      let reaches = kept_8 v n r rules.rule_8 is below directory in
      same_climb v.files (length (nodes_by (bytes_or c v.per) v)) n
      ∙ same_fuel (bytes_or c v.per) v n reaches
      ∙ system_of_directory (files_by_number v) (count_of v) n (record_links n r) (own_links v n r is) other reaches (of_directory n r (record_links n r) (kept_1 v n r rules.rule_1 is below) directory)

  directory_by : (bytes : Option Stream → List ℕ) → Holds c v (tree_of c v) → is_directory_record r ≡ true → tree.is_in_system (tree_of c v).links (length (tree_of c v).nodes) n ≡ is_own_file v n r
  unfolding is_own_file
  directory_by bytes holds directory = elim (cases_Bool (eqb n root)) [
    | inl same ↦
        ap (tree.is_in_system (tree_of c v).links (length (tree_of c v).nodes)) (eqb-true n root same)
        ∙ root_outside (tree_of c v).links (length (tree_of c v).nodes)
        ∙ sym (ap₂ (λ (a b : Bool). not (a && b) && is_system (files_by_number v) (count_of v) n (record_links n r)) directory same)
    | inr other ↦
        climbed holds directory (eqb-false n root other)
        ∙ sym (ap₂ (λ (a b : Bool). not (a && b) && is_system (files_by_number v) (count_of v) n (record_links n r)) directory other)
  ]

  node_by_kind : (bytes : Option Stream → List ℕ) (nodes : List Node) (links : List Link) → is_system_node nodes links (node_by bytes v n r) ≡ cond (is_directory_kind (kind_in v n r)) (tree.is_in_system links (length nodes) n) (is_system_kind (kind_in v n r))
  unfolding is_system_node
  node_by_kind bytes nodes links =
      ap (λ (k : Kind). cond (is_directory_kind k) (tree.is_in_system links (length nodes) (node_by bytes v n r).number) (is_system_kind k)) (node_kind bytes v n r)
      ∙ ap (λ (m : ℕ). cond (is_directory_kind (kind_in v n r)) (tree.is_in_system links (length nodes) m) (is_system_kind (kind_in v n r))) (node_number bytes v n r)

  of_tree : (bytes : Option Stream → List ℕ) → Holds c v (tree_of c v) → is_system_node (tree_of c v).nodes (tree_of c v).links (node_by bytes v n r) ≡ is_own_file v n r
  unfolding is_own_file
  of_tree bytes holds =
      let links = (tree_of c v).links in
      let nodes = (tree_of c v).nodes in
      let system = is_system (files_by_number v) (count_of v) n (record_links n r) in
      node_by_kind bytes nodes links
      ∙ ap (λ (k : Kind). cond (is_directory_kind k) (tree.is_in_system links (length nodes) n) (is_system_kind k)) (kind_is v n r)
      ∙ ap (λ (t : Bool). cond t (tree.is_in_system links (length nodes) n) (is_system_kind (kind_by (is_directory_record r) system (is_unread r) (is_unchanged r)))) (directory_kind (is_directory_record r) system (is_unread r) (is_unchanged r))
      ∙ by_record bytes holds (is_directory_record r) refl
    where
      by_record : (read : Option Stream → List ℕ) → Holds c v (tree_of c v) → (t : Bool) → is_directory_record r ≡ t
          → cond (is_directory_record r) (tree.is_in_system (tree_of c v).links (length (tree_of c v).nodes) n) (is_system_kind (kind_by (is_directory_record r) (is_system (files_by_number v) (count_of v) n (record_links n r)) (is_unread r) (is_unchanged r))) ≡ is_own_file v n r
      by_record read held true directory =
          ap (λ (b : Bool). cond b (tree.is_in_system (tree_of c v).links (length (tree_of c v).nodes) n) (is_system_kind (kind_by b (is_system (files_by_number v) (count_of v) n (record_links n r)) (is_unread r) (is_unchanged r)))) directory
          ∙ directory_by read held directory
      by_record read held false leaf =
          ap (λ (b : Bool). cond b (tree.is_in_system (tree_of c v).links (length (tree_of c v).nodes) n) (is_system_kind (kind_by b (is_system (files_by_number v) (count_of v) n (record_links n r)) (is_unread r) (is_unchanged r)))) leaf
          ∙ system_kind (is_system (files_by_number v) (count_of v) n (record_links n r)) (is_unread r) (is_unchanged r)
          ∙ sym (ap (λ (b : Bool). not (b && eqb n root) && is_system (files_by_number v) (count_of v) n (record_links n r)) leaf)

pub system_by_nodes : (bytes : Option Stream → List ℕ) (c : Content) (v : Volume) (t : Tree) (n : ℕ) (r : Record) → Holds c v t → file_in v n ≡ Some r → is_system_node t.nodes t.links (node_by bytes v n r) ≡ is_own_file v n r
system_by_nodes bytes c v t n r holds is =
    ap (λ (u : Tree). is_system_node u.nodes u.links (node_by bytes v n r)) holds.tree
    ∙ of_tree c v n r is bytes (record { kept = holds.kept; tree = refl })
