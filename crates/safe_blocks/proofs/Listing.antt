-- Where no file has a second attribute list, each file's list is the one by its own record.
use Rattle.std.proofs.Common.{◌≡◌, ℕ, ◌≤◌, ◌<◌, Bool, true, false, ◌||◌, cond, eqb, List, [], ◌∷◌, ◌++◌, get_or, find, Option, Some, None, Ok, refl, sym, ap, ◌∙◌, inl, inr, arith}
use Rattle.std.specs.Prelude.{nat_eq, count_by}
use Rattle.std.specs.List.{list_any, filter, flat_map, range_with_len}
use Rattle.std.specs.Cmp.Lexicographic.{pointwise}
use Rattle.std.proofs.lemmas.Bool.{cases_Bool, and_parts, leb-true}
use Rattle.std.proofs.lemmas.List.{append-nil}
use Rattle.std.proofs.lemmas.List.Sums.{sum_by-cons, sum_by-append}
use Rattle.std.proofs.lemmas.List.Elements.{filter-append}
use Rattle.host_base.specs.Answers.{needs}
use Rattle.disk_model.specs.Content.{Content}
use Rattle.record_model.specs.declared.attribute.Attr.{Attr}
use Rattle.record_model.specs.Constants.{attribute_list}
use Rattle.record_model.specs.Records.{Record}
use Rattle.state_model.specs.declared.geometry.Geometry.{Geometry}
use Rattle.state_model.specs.Files.{has_type}
use Rattle.state_model.specs.Loads.{record_count, attr_name, list_stream, named_attrs, entries_of, all_attrs, whole_file}
use Rattle.state_model.specs.Rules.{first_failing}
use Rattle.state_model.specs.Streams.{is_attribute_of, sorted_into, attributes_of, joined, stream_of}
use Rattle.volume_model.specs.Volumes.{Volume, file_in, file_stream, count_of}
use Rattle.volume_model.specs.Owners.{covers, uses}
use Rattle.stream_laws.specs.Sharing.{stream_at, runs_in}
use Rattle.stream_laws.specs.Volumes.{base_record}
use Rattle.stream_laws.proofs.Rewriting.{attrs_alone}
use Rattle.stream_laws.proofs.Tabling.{no_list_stream, inside_list}
use Rattle.spares_at_mount.proofs.tree_laws.Keeping.{passes_below}
use Rattle.spares_at_mount.specs.plan_owners.States.{Stands}
use Rattle.spares_at_mount.specs.plan_owners.Agreeing.{list_key}
use Rattle.spares_at_mount.proofs.plan_owners.Standing.{slots, joined_at, listed_file, some_file}
use Rattle.spares_at_mount.proofs.plan_owners.Unnamed.{slot_of_base}
use Rattle.spares_at_mount.specs.image_open.declared.refusal.Refusal.{Refusal}
use Rattle.spares_at_mount.specs.volume_mount.Mounts.{list_count, has_single_list, unless_failing, has_single_lists}
use Rattle.safe_blocks.specs.Safe.{SingleListsAreOwn}

-- ---- counts

-- 1 where the test is passed
abbrev one_if : Bool → ℕ
one_if t = cond t 1 0

pub some_counted : {X : Type 0} (q : X → Bool) (xs : List X) → list_any q xs ≡ true → 1 ≤ count_by q xs
some_counted q [] is = absurd cc
some_counted {X} q (x ∷ xs) is = by (q x) refl (λ rest. some_counted q xs rest)
  where
    by : (t : Bool) → q x ≡ t → (list_any q xs ≡ true → 1 ≤ count_by q xs) → 1 ≤ count_by q (x ∷ xs)
    by true e later = (let one : one_if (q x) ≡ 1 = ap one_if e in omega (arith, one, sum_by-cons (λ (y : X). one_if (q y)) x xs))
    by false e later = (let rest : list_any q xs ≡ true = sym (ap (λ (t : Bool). t || list_any q xs) e) ∙ is in let some = later rest in omega (arith, some, sum_by-cons (λ (y : X). one_if (q y)) x xs))

-- where none passes a test, none is left by one that is harder
none_left : {X : Type 0} (p q : X → Bool) (xs : List X) → ((x : X) → p x ≡ true → q x ≡ true) → count_by q xs ≡ 0 → filter p xs ≡ []
none_left p q [] harder none = refl
none_left {X} p q (x ∷ xs) harder none = by (p x) refl (λ rest. none_left p q xs harder rest)
  where
    by : (t : Bool) → p x ≡ t → (count_by q xs ≡ 0 → filter p xs ≡ []) → cond (p x) (x ∷ filter p xs) (filter p xs) ≡ []
    by true e later = (let one : one_if (q x) ≡ 1 = ap one_if (harder x e) in absurd (omega (arith, one, none, sum_by-cons (λ (y : X). one_if (q y)) x xs)))
    by false e later = ap (λ (t : Bool). cond t (x ∷ filter p xs) (filter p xs)) e ∙ later (omega (arith, none, sum_by-cons (λ (y : X). one_if (q y)) x xs))

-- ---- attribute lists

abbrev is_list : Attr → Bool
is_list a = eqb a.head.kind attribute_list

none_failing : (o : Option ℕ) → unless_failing o ≡ Ok tt → o ≡ None
none_failing None is = refl
none_failing (Some n) is = absurd cc

one_list : (v : Volume) (n : ℕ) (f : Record) → has_single_lists v ≡ Ok tt → file_in v n ≡ Some f → count_by is_list f.attrs ≤ 1
unfolding has_single_lists
one_list v n f single is =
    let within : n < count_of v = inside_list v.files n f (some_file v n f is) in
    leb-true (list_count f) 1 (sym (ap has_single_list is) ∙ passes_below (λ m. has_single_list (file_in v m)) (count_of v) (none_failing (first_failing (λ m. has_single_list (file_in v m)) (count_of v)) single) n within)

list_kind : (name : List ℕ) (a : Attr) → is_attribute_of attribute_list name a ≡ true → is_list a ≡ true
unfolding is_attribute_of
list_kind name a is = (and_parts (eqb a.head.kind attribute_list) (pointwise nat_eq a.name name) is).0

module _ (c : Content) (g : Geometry) (clusters : ℕ) (v : Volume) (s : Stands c g clusters v) (single : has_single_lists v ≡ Ok tt) (n : ℕ) (r : Record) (base : base_record c v.per v.table n ≡ Some r) where
  abbrev more : List Attr
  more = flat_map (λ k. named_attrs (entries_of c v.per r).entries n r k (slots c v k)) (range_with_len 0 (record_count v.table))

  abbrev name : List ℕ
  name = attr_name (find (λ (a : Attr). eqb a.head.kind attribute_list) r.attrs)

  abbrev file : Record
  file = record { head = r.head; attrs = all_attrs c v.per (slots c v) (record_count v.table) n r }

  is_file : file_in v n ≡ Some file
  is_file = (let there : get_or v.files n None ≡ Some file = joined_at c g clusters v s.loaded n (slot_of_base c v n r base).0 ∙ ap (whole_file c v.per (slots c v) (record_count v.table) n) base in listed_file c g clusters v n file s.loaded there)

  parts : file.attrs ≡ r.attrs ++ more
  unfolding all_attrs
  parts = refl

  -- the others are no attribute lists, where the record has one
  no_more : has_type attribute_list r ≡ true → count_by is_list more ≡ 0
  unfolding has_type
  no_more has =
      let one = one_list v n file single is_file in
      let mine : 1 ≤ count_by is_list r.attrs = some_counted is_list r.attrs has in
      let all : count_by is_list file.attrs ≡ count_by is_list (r.attrs ++ more) = ap (count_by is_list) parts in
      omega (arith, one, mine, all, sum_by-append (λ (a : Attr). one_if (is_list a)) r.attrs more)

  same_filter : has_type attribute_list r ≡ true → filter (is_attribute_of attribute_list name) file.attrs ≡ filter (is_attribute_of attribute_list name) r.attrs
  same_filter has =
      ap (filter (is_attribute_of attribute_list name)) parts
      ∙ filter-append (is_attribute_of attribute_list name) r.attrs more
      ∙ ap (λ (l : List Attr). filter (is_attribute_of attribute_list name) r.attrs ++ l) (none_left (is_attribute_of attribute_list name) is_list more (list_kind name) (no_more has))
      ∙ append-nil (filter (is_attribute_of attribute_list name) r.attrs)

  same_list : stream_of attribute_list name file.attrs ≡ stream_of attribute_list name r.attrs
  unfolding stream_of attributes_of
  same_list = elim (cases_Bool (has_type attribute_list r)) [
    | inl has ↦ ap (λ (l : List Attr). joined (sorted_into [] l)) (same_filter has)
    | inr none ↦ ap (λ (l : List Attr). joined (sorted_into [] (filter (is_attribute_of attribute_list name) l))) (attrs_alone c v.per (slots c v) (record_count v.table) n r (no_list_stream r none))
  ]

  pub own_list : stream_at v (list_key n r) ≡ list_stream r
  unfolding list_stream
  own_list = ap (file_stream attribute_list name) is_file ∙ same_list

pub own_lists : SingleListsAreOwn
own_lists c g clusters v s single n r base = own_list c g clusters v s single n r base
