-- A directory's index holds the names that stand in the directory, where rules 2 and 3 are kept.
use Rattle.std.proofs.Common.{◌≡◌, ℕ, zero, suc, ◌+◌, ◌<◌, ◌≤◌, Bool, true, false, cond, ◌&&◌, ◌||◌, eqb, List, [], ◌∷◌, ◌++◌, length, length-append, Option, Some, None, refl, sym, ap, subst, ◌∙◌, inl, inr, add-one, add-zero, arith}
use Rattle.std.specs.List.{filter, flat_map, list_all, list_any, range_with_len, AllByRecursion}
use Rattle.std.specs.List.Sorted.{IsPermutation}
use Rattle.std.specs.Cmp.Lexicographic.{bytes_decides}
use Rattle.std.proofs.lemmas.Bool.{cases_Bool, cases_lt, and_parts, both_ways, eqb-true, eq-eqb}
use Rattle.std.proofs.lemmas.List.Elements.{filter-append}
use Rattle.std.proofs.lemmas.List.Sums.{length-filter}
use Rattle.host_base.specs.declared.file_ref.FileRef.{FileRef}
use Rattle.host_base.specs.FileRefs.{same_reference}
use Rattle.disk_model.specs.Content.{Content}
use Rattle.tree_laws.specs.record_model.Records.{Record}
use Rattle.file_tree.specs.declared.link.Link.{Link}
use Rattle.file_tree.specs.Names.{same_units}
use Rattle.file_tree.specs.Trees.{is_in}
use Rattle.tree_laws.specs.state_model.Files.{Table, file_at, links_at, reference, is_directory_record}
use Rattle.tree_laws.specs.state_model.Loads.{table_in}
use Rattle.tree_laws.specs.state_model.Rules.{same_link, is_directory_with, is_directory_at, keeps_2, count_in, names_in, is_rising, is_name_in, is_index}
use Rattle.tree_laws.specs.state_model.Trees.{all_links}
use Rattle.tree_laws.specs.volume_model.Volumes.{Volume, files_by_number, count_of, file_in, upper_of}
use Rattle.tree_laws.specs.volume_model.Indexes.{index_links, keeps_index}
use Rattle.tree_laws.specs.volume_state.Rules.{broken_2, broken_3}
use Rattle.tree_laws.proofs.Keeping.{passes_below}
use Rattle.tree_laws.proofs.Listing.{index_listed}
use Rattle.tree_laws.proofs.Naming.{no_file, no_names}
use Rattle.tree_laws.proofs.Standing.{every_one}
use Rattle.lookup_laws.specs.Directories.{AreNamesThere}
use Rattle.lookup_laws.proofs.Among.{Among, from_among, every_among, permuted, among_passing, among_numbers}
use Rattle.lookup_laws.proofs.Rising.{rises_all, rises_apart, all_weaker}

-- ---- links by their parts

ref_of : ℕ → ℕ → FileRef
ref_of number seq = record { number = number; seq = seq }

same_file_is : (a b : FileRef) → same_reference a b ≡ true → a ≡ b
unfolding ref_of
same_file_is a b is =
    let parts = and_parts (eqb a.number b.number) (eqb a.seq b.seq) is in
    ap (λ (x : ℕ). ref_of x a.seq) (eqb-true a.number b.number parts.0) ∙ ap (λ (x : ℕ). ref_of b.number x) (eqb-true a.seq b.seq parts.1)

link_with : FileRef → List ℕ → ℕ → FileRef → Link
link_with parent name space child = record { parent = parent; name = name; space = space; child = child }

same_link_is : (l m : Link) → same_link l m ≡ true → m ≡ l
unfolding link_with
same_link_is l m is =
    let a = and_parts (same_reference l.child m.child && same_reference l.parent m.parent && eqb l.space m.space) (same_units l.name m.name) is in
    let b = and_parts (same_reference l.child m.child && same_reference l.parent m.parent) (eqb l.space m.space) a.0 in
    let d = and_parts (same_reference l.child m.child) (same_reference l.parent m.parent) b.0 in
    sym
    (ap (λ (x : FileRef). link_with l.parent l.name l.space x) (same_file_is l.child m.child d.0)
    ∙ ap (λ (x : FileRef). link_with x l.name l.space m.child) (same_file_is l.parent m.parent d.1)
    ∙ ap (λ (x : ℕ). link_with m.parent l.name x m.child) (eqb-true l.space m.space b.1)
    ∙ ap (λ (x : List ℕ). link_with m.parent x m.space m.child) ((bytes_decides l.name m.name).0 a.1))

pub any_among : (l : Link) (links : List Link) → list_any (same_link l) links ≡ true → Among l links
any_among l [] is = absurd cc
any_among l (k ∷ links) is = elim (cases_Bool (same_link l k)) [
  | inl same ↦ inl (same_link_is l k same)
  | inr other ↦ inr (any_among l links (sym (ap (λ (t : Bool). t || list_any (same_link l) links) other) ∙ is))
]

-- ---- how many names stand there

agree : (f g : Link → Bool) (links : List Link) → AllByRecursion (λ l. f l ≡ g l) links → filter f links ≡ filter g links
agree f g [] all = refl
agree f g (l ∷ links) all = ap (λ (t : Bool). cond t (l ∷ filter f links) (filter f links)) all.0 ∙ ap (λ (x : List Link). cond (g l) (l ∷ x) x) (agree f g links all.1)

directory_seq : (seq : ℕ) (o : Option Record) (r : Record) → o ≡ Some r → is_directory_with seq o ≡ true → eqb r.head.seq seq ≡ true
directory_seq seq None r same is = absurd cc
directory_seq seq (Some k) r same is =
    let equal : k ≡ r = cc in
    ap (λ (x : Record). eqb x.head.seq seq) (sym equal) ∙ (and_parts (is_directory_record k) (eqb k.head.seq seq) is).1

module _ (p : Table) (n : ℕ) (r : Record) (there : file_at p n ≡ Some r) where
  -- the number of its directory says that a name stands there
  by_number : (l : Link) → is_directory_at p l.parent ≡ true → is_in n l ≡ same_reference l.parent (reference n r)
  unfolding is_directory_at
  by_number l is = elim (cases_Bool (eqb l.parent.number n)) [
    | inl same ↦
        (let file : file_at p l.parent.number ≡ Some r = ap (file_at p) (eqb-true l.parent.number n same) ∙ there in
        let seq : eqb l.parent.seq r.head.seq ≡ true = eq-eqb l.parent.seq r.head.seq (sym (eqb-true r.head.seq l.parent.seq (directory_seq l.parent.seq (file_at p l.parent.number) r file is))) in
        same ∙ sym (ap (λ (t : Bool). t && eqb l.parent.seq r.head.seq) same ∙ seq))
    | inr other ↦ other ∙ sym (ap (λ (t : Bool). t && eqb l.parent.seq r.head.seq) other)
  ]

  as_many : (m : ℕ) → keeps_2 p m ≡ true → length (filter (is_in n) (links_at p m)) ≡ count_in (reference n r) (links_at p m)
  unfolding keeps_2 count_in
  as_many m kept =
      ap length
      (agree (is_in n) (λ l. same_reference l.parent (reference n r)) (links_at p m)
      (all_weaker (λ l. is_directory_at p l.parent ≡ true) (λ l. is_in n l ≡ same_reference l.parent (reference n r)) by_number (links_at p m) (every_one (λ l. is_directory_at p l.parent) (links_at p m) kept)))
      ∙ length-filter (λ l. same_reference l.parent (reference n r)) (links_at p m)

  one_more : (a : ℕ) → names_in p (reference n r) (a + 1) ≡ names_in p (reference n r) a + count_in (reference n r) (links_at p a)
  unfolding names_in
  one_more a = ap (names_in p (reference n r)) (add-one a)

  counted : (a k b : ℕ) → a + k ≡ b → ((m : ℕ) → m < b → keeps_2 p m ≡ true) → names_in p (reference n r) a + length (filter (is_in n) (flat_map (links_at p) (range_with_len a k))) ≡ names_in p (reference n r) b
  counted a zero b sum kept = add-zero _ ∙ ap (names_in p (reference n r)) (sym (add-zero a) ∙ sum)
  counted a (suc k) b sum kept =
      let rest = flat_map (links_at p) (range_with_len (a + 1) k) in
      let long : length (filter (is_in n) (links_at p a ++ rest)) ≡ length (filter (is_in n) (links_at p a)) + length (filter (is_in n) rest) = ap length (filter-append (is_in n) (links_at p a) rest) ∙ length-append (filter (is_in n) (links_at p a)) (filter (is_in n) rest) in
      let later = counted (a + 1) k b (omega (arith, sum)) kept in
      let this = as_many a (kept a (omega (arith, sum))) in
      let more = one_more a in
      omega (arith, long, later, this, more)

  all_counted : (count : ℕ) → ((m : ℕ) → m < count → keeps_2 p m ≡ true) → length (filter (is_in n) (all_links p count)) ≡ names_in p (reference n r) count
  unfolding all_links names_in
  all_counted count kept =
      let none : names_in p (reference n r) 0 ≡ 0 = refl in
      let sum : names_in p (reference n r) 0 + length (filter (is_in n) (all_links p count)) ≡ names_in p (reference n r) count = counted 0 count count (omega arith) kept in
      omega (arith, none, sum)

  -- a name of the index stands there among all names
  name_there : (count : ℕ) → ((m : ℕ) → count ≤ m → links_at p m ≡ []) → (l : Link) → is_name_in p (reference n r) l ≡ true → Among l (filter (is_in n) (all_links p count))
  unfolding is_name_in all_links
  name_there count none l is =
      let parts = and_parts (same_reference l.parent (reference n r)) (list_any (same_link l) (links_at p l.child.number)) is in
      let own = any_among l (links_at p l.child.number) parts.1 in
      let inside = (and_parts (eqb l.parent.number n) (eqb l.parent.seq r.head.seq) parts.0).0 in
      let below : l.child.number < count = elim (cases_lt l.child.number count) [
        | inl less ↦ less
        | inr past ↦ absurd (subst (Among l) (none l.child.number past) own)
      ] in
      among_passing (is_in n) l (flat_map (links_at p) (range_with_len 0 count)) (among_numbers (links_at p) l l.child.number 0 count (omega arith) (omega (arith, below)) own) inside

-- ---- rule 3

file_below : (v : Volume) (n : ℕ) (r : Record) → file_in v n ≡ Some r → n < count_of v
file_below v n r is = elim (cases_lt n (count_of v)) [
  | inl less ↦ less
  | inr past ↦ (let none : None ≡ Some r = sym (no_file v.files n past) ∙ is in absurd cc)
]

kept_3 : (c : Content) (v : Volume) (n : ℕ) → broken_3 c v ≡ None → n < count_of v → keeps_index c v (upper_of c v) n ≡ true
unfolding broken_3
kept_3 c v n none below = passes_below (keeps_index c v (upper_of c v)) (count_of v) none n below

kept_2 : (v : Volume) → broken_2 v ≡ None → (m : ℕ) → m < count_of v → keeps_2 (files_by_number v) m ≡ true
unfolding broken_2
kept_2 v none m below = passes_below (keeps_2 (files_by_number v)) (count_of v) none m below

record Parts (upper : List ℕ) (p : Table) (count : ℕ) (directory : FileRef) (links : List Link) : Type 0 where
  rising : is_rising upper links ≡ true
  names : list_all (is_name_in p directory) links ≡ true
  size : length links ≡ names_in p directory count

parts_of : (upper : List ℕ) (p : Table) (count : ℕ) (directory : FileRef) (links : List Link) → is_index upper p count directory links ≡ true → Parts upper p count directory links
unfolding is_index
parts_of upper p count directory links is =
    let parts = and_parts _ _ is in
    let front = and_parts _ _ parts.0 in
    record { rising = front.0; names = front.1; size = eqb-true _ _ parts.1 }

there_by_index : (v : Volume) (upper : List ℕ) (n : ℕ) (r : Record) (links : List Link) → broken_2 v ≡ None → file_in v n ≡ Some r → is_index upper (files_by_number v) (count_of v) (reference n r) links ≡ true
    → AreNamesThere upper (all_links (files_by_number v) (count_of v)) n links
there_by_index v upper n r links none there is =
    let p = files_by_number v in
    let count = count_of v in
    let parts = parts_of upper p count (reference n r) links is in
    let rises = rises_all upper links parts.rising in
    let all = all_links p count in
    let each = all_weaker (λ l. is_name_in p (reference n r) l ≡ true) (λ l. Among l (filter (is_in n) all)) (name_there p n r there count (no_names v.files)) links (every_one (is_name_in p (reference n r)) links parts.names) in
    record { same = permuted links (filter (is_in n) all) (rises_apart upper links rises) each (all_counted p n r there count (kept_2 v none) ∙ sym parts.size); rising = parts.rising }

pub held_by_index : (c : Content) (v : Volume) (n : ℕ) (r : Record) → broken_2 v ≡ None → broken_3 c v ≡ None → file_in v n ≡ Some r → is_directory_record r ≡ true
    → (links : List Link) × (index_links c v.per (upper_of c v) r ≡ Some links) × AreNamesThere (upper_of c v) (all_links (files_by_number v) (count_of v)) n links
held_by_index c v n r two three there directory =
    let held = index_listed c v (upper_of c v) n r there directory (kept_3 c v n three (file_below v n r there)) in
    (held.0, held.1, there_by_index v (upper_of c v) n r held.0 two there held.2)
