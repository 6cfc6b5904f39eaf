-- The names of records with one file more.
use Rattle.std.proofs.Common.{◌≡◌, ◌≢◌, ℕ, zero, suc, ◌+◌, ◌-◌, ◌^◌, ◌<◌, ◌||◌, ◌&&◌, eqb, not, Bool, true, false, cond, List, [], ◌∷◌, length, map, set, get_or, Option, Some, None, refl, sym, ap, subst, ◌∙◌, inl, inr, arith}
use Rattle.std.specs.Prelude.{nat_lt, ◌==◌, count_by, unwrap_or}
use Rattle.std.specs.List.{range_with_len}
use Rattle.std.proofs.Math.ListN.{length-set}
use Rattle.std.proofs.lemmas.Bool.{cases_lt, cases_eq, eq-eqb, ne_eqb, lt-ltb, le-ltb}
use Rattle.std.proofs.lemmas.List.{get_or-set_same, get_or-set_other, same_lists, get_or_past}
use Rattle.std.proofs.lemmas.List.FromFn.{get_or-map-range_with_len, length-map-range_with_len}
use Rattle.std.proofs.lemmas.List.Sums.{sum_by-cons}
use Rattle.host_base.specs.declared.file_ref.FileRef.{FileRef}
use Rattle.host_base.specs.FileRefs.{same_reference}
use Rattle.tree_laws.specs.record_model.Records.{Record}
use Rattle.tree_laws.specs.file_tree.declared.link.Link.{Link}
use Rattle.tree_laws.specs.file_tree.Walks.{root, first_user_record, at_some}
use Rattle.tree_laws.specs.state_model.Files.{Table, only_base, file_at, file_links, links_at, reference}
use Rattle.tree_laws.specs.state_model.Loads.{table_in}
use Rattle.tree_laws.specs.state_model.Rules.{count_in}
use Rattle.tree_laws.specs.state_model.Trees.{first_parent, parent_at, leads, is_in_system}
use Rattle.record_rules.specs.Counts.{count_for, count_at, names_for, names_at, has_reference, has_sequence}
use Rattle.record_rules.specs.Links.{links_in}
use Rattle.record_rules.specs.Ways.{AreWaysOf}
use Rattle.record_rules.proofs.Links.{length_links}
use Rattle.record_rules.proofs.Tallies.{count_one, count_none, names_more, names_none}
use Rattle.tree_laws.specs.Ways.{IsOutside, KeepsWays, WaysKept, WaysAreShort}
use Rattle.volume_tree.specs.declared.names.Names.{Names}
use Rattle.volume_tree.specs.Named.{AreNamesOf}
use Rattle.made_names.specs.Made.{HasPlaces, MakesName, with_file, stands_in_system, PutsName, MadeNamesTell}

-- ---- lists by number

-- what is put at a place of a list that is made by number
set_at : {X : Type 0} (f g : ℕ → X) (count other n : ℕ) (x : X) (xs ys : List X) → other ≡ count → xs ≡ map f (range_with_len 0 count) → ys ≡ set xs n x → n < count → g n ≡ x → ((k : ℕ) → k ≢ n → g k ≡ f k) → ys ≡ map g (range_with_len 0 other)
set_at f g count other n x xs ys same old new within here else_same =
    new ∙ same_lists (set xs n x) (map g (range_with_len 0 other))
    (length-set xs n x ∙ ap length old ∙ length-map-range_with_len f 0 count ∙ sym same ∙ sym (length-map-range_with_len g 0 other))
    (λ k d lt. at k d (inside k lt))
  where
    size : length xs ≡ count
    size = ap length old ∙ length-map-range_with_len f 0 count

    inside : (k : ℕ) → k < length (set xs n x) → k < count
    inside k lt = let s = length-set xs n x in let t = size in omega (arith, lt, s, t)

    at : (k : ℕ) (d : _) → k < count → get_or (set xs n x) k d ≡ get_or (map g (range_with_len 0 other)) k d
    at k d lt = elim (cases_eq k n) [
      | inl is ↦ (
          let there : get_or (set xs n x) n d ≡ x = get_or-set_same xs n x d (let t = size in omega (arith, within, t)) in
          ap (λ (j : ℕ). get_or (set xs n x) j d) is ∙ there ∙ sym here ∙ ap g (sym is) ∙ sym (get_or-map-range_with_len g 0 other k k d (omega (arith, lt, same)) (omega arith)))
      | inr isnt ↦
          get_or-set_other xs n k x d isnt ∙ ap (λ (l : List _). get_or l k d) old ∙ get_or-map-range_with_len f 0 count k k d lt (omega arith) ∙ sym (else_same k isnt)
          ∙ sym (get_or-map-range_with_len g 0 other k k d (omega (arith, lt, same)) (omega arith))
    ]

-- ---- places

length_by : {X : Type 0} (f : ℕ → X) (count : ℕ) (xs : List X) → xs ≡ map f (range_with_len 0 count) → length xs ≡ count
length_by f count xs is = ap length is ∙ length-map-range_with_len f 0 count

pub places : (records : List (Option Record)) (names : Names) (n d : ℕ) → AreNamesOf names records → n < length records → d < length names.counts.items → get_or names.counts.items d 0 < 2 ^ 64 - 1 → HasPlaces n d names
places records names n d are within counted few = record {
  links = let s = ap length are.links ∙ length_links records in omega (arith, within, s);
  counts = counted;
  few = few;
  parents = let s = length_by (parent_at (table_in records)) (length records) names.ways.parents.items are.ways.parents in omega (arith, within, s);
  rooted = let s = length_by (leads (table_in records) (length records)) (length records) names.ways.rooted.items are.ways.rooted in omega (arith, within, s);
  in_system = let s = length_by (is_in_system (table_in records) (length records)) (length records) names.ways.in_system.items are.ways.in_system in omega (arith, within, s);
}

-- ---- names that stand in no file of a number

none_in : (d : FileRef) (links : List Link) → IsOutside d.number links → count_in d links ≡ 0
unfolding count_in
none_in d [] outside = refl
none_in d (l ∷ links) outside =
    let step = sum_by-cons (λ (x : Link). cond {A = ℕ} (same_reference x.parent d) 1 0) l links in
    let one : cond {A = ℕ} (same_reference l.parent d) 1 0 ≡ 0 = ap (λ (t : Bool). cond {A = ℕ} (t && (l.parent.seq == d.seq)) 1 0) (ne_eqb l.parent.number d.number outside.0) in
    let rest : count_by (λ (x : Link). same_reference x.parent d) links ≡ 0 = none_in d links outside.1 in
    omega (arith, step, one, rest)

one_more : (t : Table) (k count : ℕ) → names_at t k (suc count) ≡ names_at t k count + count_at t k (links_at t count)
one_more t k count = subst (λ (c : ℕ). names_at t k c ≡ names_at t k count + count_at t k (links_at t count)) (omega arith) (names_more t k count)

-- ---- the records with the file

module _ (records : List (Option Record)) (n : ℕ) (r : Record) (l : Link) (m : MakesName records n r l) where
  abbrev p : Table
  p = table_in records

  abbrev others : List (Option Record)
  others = with_file n r records

  abbrev q : Table
  q = table_in others

  same_count : length others ≡ length records
  same_count = length-set records n (Some r)

  only : only_base (Some r) ≡ Some r
  only = ap (λ (t : Bool). cond t (Some r) None) m.base

  file_here : file_at q n ≡ Some r
  unfolding file_at
  file_here = ap only_base (get_or-set_same records n (Some r) None m.within) ∙ only

  file_else : (k : ℕ) → k ≢ n → file_at q k ≡ file_at p k
  unfolding file_at
  file_else k other = ap only_base (get_or-set_other records n k (Some r) None other)

  links_here : links_at q n ≡ l ∷ []
  unfolding links_at
  links_here = ap (file_links n) file_here ∙ m.one

  links_else : (k : ℕ) → k ≢ n → links_at q k ≡ links_at p k
  unfolding links_at
  links_else k other = ap (file_links k) (file_else k other)

  none_before : links_at p n ≡ []
  unfolding links_at
  none_before = ap (file_links n) m.none

  parent_here : parent_at q n ≡ Some l.parent.number
  unfolding parent_at
  parent_here = ap first_parent links_here

  parent_else : (k : ℕ) → k ≢ n → parent_at q k ≡ parent_at p k
  unfolding parent_at
  parent_else k other = ap first_parent (links_else k other)

  no_parent : parent_at p n ≡ None
  unfolding parent_at
  no_parent = ap first_parent none_before

  not_root : n ≢ root
  not_root is = let user = m.user in absurd (omega (arith, user, is))

  -- the directory is another file
  leads_not : (most : ℕ) → leads p most n ≡ false
  unfolding leads
  leads_not zero = ne_eqb n root not_root
  leads_not (suc most) = ap (λ (t : Bool). t || at_some (leads p most) (parent_at p n)) (ne_eqb n root not_root) ∙ ap (at_some (leads p most)) no_parent

  yes_no : {Y : Type 0} → true ≡ false → Y
  yes_no e = absurd cc

  apart : l.parent.number ≢ n
  apart is = yes_no (sym m.leads ∙ ap (leads p (length records)) is ∙ leads_not (length records))

  -- ---- the ways up

  abbrev inside : ℕ → Bool
  inside k = not (eqb k n)

  is_inside : (k : ℕ) → k ≢ n → inside k ≡ true
  is_inside k other = ap not (ne_eqb k n other)

  inside_is : (k : ℕ) → inside k ≡ true → k ≢ n
  inside_is k is same = yes_no (sym is ∙ ap not (eq-eqb k n same))

  first_outside : (links : List Link) (k : ℕ) → IsOutside n links → first_parent links ≡ Some k → k ≢ n
  first_outside [] k outside is same = absurd cc
  first_outside (x ∷ links) k outside is same = outside.0 (some_is is ∙ same)
    where
      some_is : {a b : ℕ} → ◌≡◌ {A = Option ℕ} (Some a) (Some b) → a ≡ b
      some_is e = ap (λ (o : Option ℕ). unwrap_or o 0) e

  outside_before : (j : ℕ) → IsOutside n (links_at p j)
  outside_before j = elim (cases_eq j n) [
    | inl is ↦ subst (IsOutside n) (sym (ap (links_at p) is ∙ none_before)) tt
    | inr isnt ↦ m.leaf j isnt
  ]

  parent_outside : (j k : ℕ) → parent_at p j ≡ Some k → k ≢ n
  unfolding parent_at
  parent_outside j k is = first_outside (links_at p j) k (outside_before j) is

  keeps : KeepsWays inside p q
  keeps = record {
    names = λ k is. links_else k (inside_is k is);
    up = λ j k is parent. is_inside k (parent_outside j k parent);
  }

  module _ (kept : WaysKept) (short : WaysAreShort) where
    leads_else : (most k : ℕ) → k ≢ n → leads q most k ≡ leads p most k
    leads_else most k other = kept.way_up inside p q most k keeps (is_inside k other)

    in_system_else : (most k : ℕ) → k ≢ n → is_in_system q most k ≡ is_in_system p most k
    in_system_else most k other = kept.in_system inside p q most k keeps (is_inside k other)

    leads_here : leads q (length others) n ≡ true
    leads_here = short.below others (length records) n l.parent.number parent_here (leads_else (length records) l.parent.number apart ∙ m.leads)

    in_system_here : is_in_system q (length others) n ≡ stands_in_system records l
    in_system_here =
        short.in_system_by q (length others) n l.parent.number not_root parent_here leads_here
        ∙ ap (λ (t : Bool). t || is_in_system q (length others) l.parent.number) (le-ltb n first_user_record m.user)
        ∙ in_system_else (length others) l.parent.number apart
        ∙ ap (λ (c : ℕ). is_in_system p c l.parent.number) same_count

    ways_tell : (old new : Names) → AreWaysOf old.ways records → PutsName n (l ∷ []) l.parent.number (stands_in_system records l) old new → AreWaysOf new.ways others
    ways_tell old new are puts = record {
      parents = set_at (parent_at p) (parent_at q) (length records) (length others) n (Some l.parent.number) old.ways.parents.items new.ways.parents.items same_count are.parents puts.parents m.within parent_here parent_else;
      rooted = set_at (leads p (length records)) (leads q (length others)) (length records) (length others) n true old.ways.rooted.items new.ways.rooted.items same_count are.rooted puts.rooted m.within leads_here
          (λ k other. leads_else (length others) k other ∙ ap (λ (c : ℕ). leads p c k) same_count);
      in_system = set_at (is_in_system p (length records)) (is_in_system q (length others)) (length records) (length others) n (stands_in_system records l) old.ways.in_system.items new.ways.in_system.items same_count are.in_system puts.in_system m.within in_system_here
          (λ k other. in_system_else (length others) k other ∙ ap (λ (c : ℕ). is_in_system p c k) same_count);
    }

  links_tell : (old new : List (List Link)) → old ≡ links_in records → new ≡ set old n (l ∷ []) → new ≡ links_in others
  unfolding links_in
  links_tell old new are puts = set_at (links_at p) (links_at q) (length records) (length others) n (l ∷ []) old new same_count are puts m.within links_here links_else

  -- ---- how many names stand in each

  count_same : (k : ℕ) (links : List Link) → k ≢ n → count_at q k links ≡ count_at p k links
  unfolding count_at
  count_same k links other = ap (λ (o : Option Record). count_for k o links) (file_else k other)

  -- one more behind the file's number, where it is counted
  abbrev counted : ℕ → ℕ → ℕ
  counted k count = cond (nat_lt n count) (count_at p k (l ∷ [])) 0

  counted_same : (k count : ℕ) → count ≢ n → counted k (suc count) ≡ counted k count
  counted_same k count other = elim (cases_lt n count) [
    | inl lt ↦ ap (λ (t : Bool). cond {A = ℕ} t (count_at p k (l ∷ [])) 0) (lt-ltb n (suc count) (omega (arith, lt)) ∙ sym (lt-ltb n count lt))
    | inr le ↦ ap (λ (t : Bool). cond {A = ℕ} t (count_at p k (l ∷ [])) 0) (le-ltb n (suc count) (omega (arith, le, other)) ∙ sym (le-ltb n count le))
  ]

  names_else : (k count : ℕ) → k ≢ n → names_at q k count ≡ names_at p k count + counted k count
  names_else k zero other =
      let none : counted k 0 ≡ 0 = ap (λ (t : Bool). cond {A = ℕ} t (count_at p k (l ∷ [])) 0) (le-ltb n 0 (omega arith)) in
      let a = names_none q k in let b = names_none p k in omega (arith, a, b, none)
  names_else k (suc count) other =
      let before = names_else k count other in
      let more = one_more q k count in
      let more_before = one_more p k count in
      elim (cases_eq count n) [
        | inl is ↦ (
            let here : count_at q k (links_at q count) ≡ count_at p k (l ∷ []) = ap (λ (j : ℕ). count_at q k (links_at q j)) is ∙ ap (count_at q k) links_here ∙ count_same k (l ∷ []) other in
            let none : count_at p k (links_at p count) ≡ 0 = ap (λ (j : ℕ). count_at p k (links_at p j)) is ∙ ap (count_at p k) none_before ∙ count_none p k in
            let low : counted k count ≡ 0 = ap (λ (t : Bool). cond {A = ℕ} t (count_at p k (l ∷ [])) 0) (le-ltb n count (omega (arith, is))) in
            let high : counted k (suc count) ≡ count_at p k (l ∷ []) = ap (λ (t : Bool). cond {A = ℕ} t (count_at p k (l ∷ [])) 0) (lt-ltb n (suc count) (omega (arith, is))) in
            omega (arith, before, more, more_before, here, none, low, high))
        | inr isnt ↦ (
            let same : count_at q k (links_at q count) ≡ count_at p k (links_at p count) = ap (count_at q k) (links_else count isnt) ∙ count_same k (links_at p count) other in
            let stays = counted_same k count isnt in
            omega (arith, before, more, more_before, same, stays))
      ]

  -- none stands in the file
  outside_all : (j : ℕ) → IsOutside n (links_at q j)
  outside_all j = elim (cases_eq j n) [
    | inl is ↦ subst (IsOutside n) (sym (ap (links_at q) is ∙ links_here)) (apart, tt)
    | inr isnt ↦ subst (IsOutside n) (sym (links_else j isnt)) (outside_before j)
  ]

  none_counted : (links : List Link) → IsOutside n links → count_at q n links ≡ 0
  unfolding count_at
  none_counted links outside = ap (λ (o : Option Record). count_for n o links) file_here ∙ none_in (reference n r) links outside

  names_here : (count : ℕ) → names_at q n count ≡ 0
  names_here zero = names_none q n
  names_here (suc count) = let before = names_here count in let more = one_more q n count in let none = none_counted (links_at q count) (outside_all count) in omega (arith, before, more, none)

  names_before : (count : ℕ) → names_at p n count ≡ 0
  unfolding names_at
  names_before count = ap (λ (o : Option Record). names_for p n o count) m.none

  -- the directory
  has_there : has_sequence l.parent.seq (file_at p l.parent.number) ≡ true
  unfolding has_reference
  has_there = m.there

  directory_within : l.parent.number < length records
  unfolding file_at
  directory_within = elim (cases_lt l.parent.number (length records)) [
    | inl lt ↦ lt
    | inr past ↦ yes_no (sym has_there ∙ ap (λ (o : Option Record). has_sequence l.parent.seq (only_base o)) (get_or_past records l.parent.number None past))
  ]

  one_there : count_at p l.parent.number (l ∷ []) ≡ 1
  one_there = count_one p l.parent.number l ∙ ap (λ (t : Bool). cond {A = ℕ} (t && has_sequence l.parent.seq (file_at p l.parent.number)) 1 0) (eq-eqb l.parent.number l.parent.number refl) ∙ ap (λ (t : Bool). cond {A = ℕ} t 1 0) has_there

  none_else : (k : ℕ) → k ≢ l.parent.number → count_at p k (l ∷ []) ≡ 0
  none_else k other = count_one p k l ∙ ap (λ (t : Bool). cond {A = ℕ} (t && has_sequence l.parent.seq (file_at p k)) 1 0) (ne_eqb l.parent.number k (λ is. other (sym is)))

  names_after : (k : ℕ) → k ≢ n → names_at q k (length others) ≡ names_at p k (length records) + count_at p k (l ∷ [])
  names_after k other =
      ap (names_at q k) same_count ∙ names_else k (length records) other
      ∙ ap (λ (x : ℕ). names_at p k (length records) + x) (ap (λ (t : Bool). cond {A = ℕ} t (count_at p k (l ∷ [])) 0) (lt-ltb n (length records) m.within))

  counts_tell : (old new : List ℕ) → length old ≡ length records → ((k : ℕ) → k < length records → get_or old k 0 ≡ names_at p k (length records)) → new ≡ set old l.parent.number (get_or old l.parent.number 0 + 1)
      → (k : ℕ) → k < length others → get_or new k 0 ≡ names_at q k (length others)
  counts_tell old new size are puts k lt =
      let below : k < length records = omega (arith, lt, same_count) in
      ap (λ (xs : List ℕ). get_or xs k 0) puts ∙ elim (cases_eq k l.parent.number) [
        | inl is ↦ (
            let put : get_or (set old l.parent.number (get_or old l.parent.number 0 + 1)) l.parent.number 0 ≡ get_or old l.parent.number 0 + 1 = get_or-set_same old l.parent.number (get_or old l.parent.number 0 + 1) 0 (let d = directory_within in omega (arith, d, size)) in
            let was : get_or old l.parent.number 0 ≡ names_at p l.parent.number (length records) = are l.parent.number directory_within in
            let after = names_after l.parent.number apart in
            let one = one_there in
            ap (λ (j : ℕ). get_or (set old l.parent.number (get_or old l.parent.number 0 + 1)) j 0) is ∙ omega (arith, put, was, after, one) ∙ ap (λ (j : ℕ). names_at q j (length others)) (sym is))
        | inr isnt ↦ get_or-set_other old l.parent.number k (get_or old l.parent.number 0 + 1) 0 isnt ∙ are k below ∙ elim (cases_eq k n) [
          | inl is ↦ (let a = names_before (length records) in let b = names_here (length others) in ap (λ (j : ℕ). names_at p j (length records)) is ∙ omega (arith, a, b) ∙ ap (λ (j : ℕ). names_at q j (length others)) (sym is))
          | inr other ↦ (let after = names_after k other in let none = none_else k isnt in omega (arith, after, none))
        ]
      ]

pub names_tell : WaysKept → WaysAreShort → MadeNamesTell
names_tell kept short records n r l old new are m puts = record {
  links = links_tell records n r l m old.links.items new.links.items are.links puts.list;
  sized = ap length puts.counts ∙ length-set old.counts.items l.parent.number (get_or old.counts.items l.parent.number 0 + 1) ∙ are.sized ∙ sym (same_count records n r l m);
  counted = counts_tell records n r l m old.counts.items new.counts.items are.sized are.counted puts.counts;
  ways = ways_tell records n r l m kept short old new are.ways puts;
}
