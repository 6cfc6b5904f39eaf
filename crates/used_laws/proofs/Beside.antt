-- The used bytes of a record in which a stream has changed, and of what comes beside it.
use Rattle.std.proofs.Common.{◌≡◌, ◌≢◌, ◌⊎◌, ℕ, ◌+◌, ◌*◌, Bool, true, false, cond, List, [], ◌∷◌, ◌++◌, length, refl, sym, ap, ◌∙◌, inl, inr, arith}
use Rattle.std.specs.Prelude.{not, filter, ◌&&◌, ◌||◌, nat_lt, nat_eq}
use Rattle.std.specs.Cmp.Lexicographic.{pointwise}
use Rattle.std.specs.List.{AllByRecursion}
use Rattle.std.specs.List.Sorted.{IsPermutation}
use Rattle.std.proofs.lemmas.Bool.{cases_Bool, eq-eqb}
use Rattle.std.proofs.lemmas.List.Elements.{filter_agree, filter-append}
use Rattle.std.proofs.lemmas.List.Folds.{list_any-append}
use Rattle.std.proofs.lemmas.List.Sorted.{list_any-IsPermutation, IsPermutation-append_left}
use Rattle.draft_records.specs.record_model.declared.attribute.Attr.{Attr}
use Rattle.draft_records.specs.record_model.Attributes.{is_compressed_or_sparse, spelling}
use Rattle.draft_records.specs.record_model.Pairs.{pairs_of}
use Rattle.draft_records.specs.record_model.Records.{Record, spelled_bytes, used_of}
use Rattle.draft_records.proofs.record_model.UnitBytes.{length-zeros}
use Rattle.step_model.specs.record_writer.Edits.{whole_length}
use Rattle.step_model.specs.record_writer.Normal.{normal}
use Rattle.step_model.proofs.record_writer.Measures.{length-spelling}
use Rattle.draft_records.specs.state_model.declared.stream.Extents.{Extents}
use Rattle.draft_records.specs.state_model.Loads.{total_clusters}
use Rattle.draft_records.specs.state_model.Streams.{first_vcn, is_attribute_of, with_attribute, sorted_into, attributes_of}
use Rattle.record_values.specs.record_streams.Placing.{without_stream, with_stream, held_clusters, placed_attr as written_attr, placed_first, placed_record}
use Rattle.record_values.proofs.record_streams.Kept.{with_none, with_one}
use Rattle.record_values.proofs.record_streams.Streams.{attribute_kind, first_passes, some_by, placed_others}
use Rattle.record_values.specs.Values.{valued_attr, valued_first, valued_record}
use Rattle.record_values.proofs.Valued.{values_put}
use Rattle.draft_records.specs.Records.{with_normal, written_bytes}
use Rattle.step_model.specs.Used.{is_replaced, attrs_with, used_after, new_attr, first_or, own_attr, value_attr, placed_attr}
use Rattle.step_model.proofs.NeverFull.{used_bytes}
use Rattle.used_laws.specs.Laws.{IsOther, StreamsUsed, StreamsUsedTogether}
use Rattle.used_laws.proofs.Lengths.{normal_length, written_used, bytes-append, filter_yes, filter_no, held_alike}

-- ---- tests

abbrev Of : ℕ → List ℕ → Attr → Bool
Of kind name a = is_attribute_of kind name a

filter_twice : (q p : Attr → Bool) (attrs : List Attr) → filter q (filter p attrs) ≡ filter (λ (a : Attr). p a && q a) attrs
filter_twice q p [] = refl
filter_twice q p (a ∷ attrs) =
    let both : Attr → Bool = λ b. p b && q b in
    let rest = filter_twice q p attrs in
    elim (cases_Bool (p a)) [
      | inl is ↦ ap (filter q) (filter_yes p a attrs is) ∙ ap (λ (l : List Attr). cond (q a) (a ∷ l) l) rest ∙ sym (ap (λ (t : Bool). cond (t && q a) (a ∷ filter both attrs) (filter both attrs)) is)
      | inr is ↦ ap (filter q) (filter_no p a attrs is) ∙ rest ∙ sym (ap (λ (t : Bool). cond (t && q a) (a ∷ filter both attrs) (filter both attrs)) is)
    ]

not_either : (m o : Bool) → not (m || (o || false)) ≡ (not o && not m)
not_either true true = refl
not_either true false = refl
not_either false true = refl
not_either false false = refl

-- the attributes that one more replaces besides
replaced_more : (more : List Attr) (new a : Attr) → not (is_replaced (more ++ new ∷ []) a) ≡ (not (is_attribute_of new.head.kind new.name a) && not (is_replaced more a))
replaced_more more new a =
    ap not (list_any-append (λ (b : Attr). is_attribute_of b.head.kind b.name a) more (new ∷ []))
    ∙ not_either (is_replaced more a) (is_attribute_of new.head.kind new.name a)

-- ---- the bytes of what a test passes of a record with another attribute of a stream

one_bytes : (q : Attr → Bool) (kind : ℕ) (name : List ℕ) (new : Attr) (attrs : List Attr) (b : Attr) (rest : List Attr) → q new ≡ true → filter (is_attribute_of kind name) attrs ≡ b ∷ rest
    → spelled_bytes (filter q (with_stream kind name new attrs)) ≡ length (spelling new) + spelled_bytes (filter (λ (a : Attr). not (is_attribute_of kind name a) && q a) attrs)
one_bytes q kind name new [] b rest here some = absurd cc
one_bytes q kind name new (a ∷ attrs) b rest here some =
    let own : Attr → Bool = λ x. is_attribute_of kind name x in
    let out : Attr → Bool = λ x. not (is_attribute_of kind name x) in
    let left : Attr → Bool = λ x. not (is_attribute_of kind name x) && q x in
    elim (cases_Bool (is_attribute_of kind name a)) [
      | inl is ↦
          ap (λ (l : List Attr). spelled_bytes (filter q l)) (with_one kind name new a attrs is)
          ∙ ap spelled_bytes (filter_yes q new (without_stream kind name attrs) here)
          ∙ ap (λ (l : List Attr). length (spelling new) + spelled_bytes l) (filter_twice q out attrs ∙ sym (filter_no left a attrs (ap (λ (t : Bool). not t && q a) is)))
      | inr is ↦
          let later = one_bytes q kind name new attrs b rest here (sym (filter_no own a attrs is) ∙ some) in
          let first = ap (λ (l : List Attr). spelled_bytes (filter q l)) (with_none kind name new a attrs is) in
          other q left a (with_stream kind name new attrs) attrs (length (spelling new)) (ap (λ (t : Bool). not t && q a) is) later first
    ]
  where
    other : (q left : Attr → Bool) (a : Attr) (xs attrs : List Attr) (n : ℕ) {m : ℕ} → left a ≡ q a → spelled_bytes (filter q xs) ≡ n + spelled_bytes (filter left attrs) → m ≡ spelled_bytes (filter q (a ∷ xs)) → m ≡ n + spelled_bytes (filter left (a ∷ attrs))
    other q left a xs attrs n same later first = elim (cases_Bool (q a)) [
      | inl is ↦ omega (arith, first, later, ap spelled_bytes (filter_yes q a xs is), ap spelled_bytes (filter_yes left a attrs (same ∙ is)))
      | inr is ↦ omega (arith, first, later, ap spelled_bytes (filter_no q a xs is), ap spelled_bytes (filter_no left a attrs (same ∙ is)))
    ]

-- a test that passes no other stream's attribute: none of the stream is there
none_bytes : (q : Attr → Bool) (kind : ℕ) (name : List ℕ) (attrs : List Attr) → filter (is_attribute_of kind name) attrs ≡ [] → filter (λ (a : Attr). not (is_attribute_of kind name a) && q a) attrs ≡ filter q attrs
none_bytes q kind name [] none = refl
none_bytes q kind name (a ∷ attrs) none =
    let own : Attr → Bool = λ x. is_attribute_of kind name x in
    let left : Attr → Bool = λ x. not (is_attribute_of kind name x) && q x in
    elim (cases_Bool (is_attribute_of kind name a)) [
      | inl is ↦ absurd (let some = sym (filter_yes own a attrs is) ∙ none in cc)
      | inr is ↦
          ap (λ (t : Bool). cond (not t && q a) (a ∷ filter left attrs) (filter left attrs)) is
          ∙ ap (λ (l : List Attr). cond (q a) (a ∷ l) l) (none_bytes q kind name attrs (sym (filter_no own a attrs is) ∙ none))
    ]

-- ---- which attributes come

some_replaced : (more : List Attr) (kind : ℕ) (name : List ℕ) (a : Attr) → is_attribute_of kind name a ≡ true → AllByRecursion (IsOther kind name) more → is_replaced more a ≡ false
some_replaced [] kind name a is others = refl
some_replaced (b ∷ more) kind name a is others =
    ap (λ (t : Bool). t || is_replaced more a) (of_other kind name b a (is_attribute_of b.head.kind b.name a) refl is others.0) ∙ some_replaced more kind name a is others.1
  where
    of_other : (kind : ℕ) (name : List ℕ) (b a : Attr) (t : Bool) → is_attribute_of b.head.kind b.name a ≡ t → is_attribute_of kind name a ≡ true → IsOther kind name b → is_attribute_of b.head.kind b.name a ≡ false
    of_other kind name b a false here is other = here
    of_other kind name b a true here is other =
        let first = attribute_kind kind name a is in
        let second = attribute_kind b.head.kind b.name a here in
        elim other [
          | inl kinds ↦ absurd (kinds (sym second.0 ∙ first.0))
          | inr names ↦ absurd (names (sym second.1 ∙ first.1))
        ]

-- ---- used bytes

after_bytes : (more : List Attr) (r : Record) → used_after more r ≡ 0x38 + (spelled_bytes more + spelled_bytes (filter (λ (a : Attr). not (is_replaced more a)) r.attrs)) + 8
unfolding used_after attrs_with
after_bytes more r = ap (λ (n : ℕ). 0x38 + n + 8) (bytes-append more (filter (λ (a : Attr). not (is_replaced more a)) r.attrs))

-- beside one attribute, with which others stay
pub one_more : (more : List Attr) (new : Attr) (r : Record) → used_after (more ++ new ∷ []) r ≡ 0x38 + (spelled_bytes more + length (spelling new) + spelled_bytes (filter (λ (a : Attr). not (is_attribute_of new.head.kind new.name a) && not (is_replaced more a)) r.attrs)) + 8
one_more more new r =
    let all = after_bytes (more ++ new ∷ []) r in
    let parts = bytes-append more (new ∷ []) in
    let left = ap spelled_bytes (filter_agree (λ (a : Attr). not (is_replaced (more ++ new ∷ []) a)) (λ (a : Attr). not (is_attribute_of new.head.kind new.name a) && not (is_replaced more a)) (replaced_more more new) r.attrs) in
    omega (arith, all, parts, left)

-- so many bytes of one attribute of the same stream
pub alike : (more : List Attr) (x y : Attr) (r : Record) → x.head.kind ≡ y.head.kind → x.name ≡ y.name → length (spelling x) ≡ length (spelling y) → used_after (more ++ x ∷ []) r ≡ used_after (more ++ y ∷ []) r
alike more x y r kinds names sizes =
    let one = one_more more x r in
    let two = one_more more y r in
    let left : (kind : ℕ) (name : List ℕ) → ℕ = λ kind name. spelled_bytes (filter (λ (a : Attr). not (is_attribute_of kind name a) && not (is_replaced more a)) r.attrs) in
    let same : left x.head.kind x.name ≡ left y.head.kind y.name = ap (λ (k : ℕ). left k x.name) kinds ∙ ap (λ (n : List ℕ). left y.head.kind n) names in
    omega (arith, one, two, same, sizes)

pub beside : (kind : ℕ) (name : List ℕ) (new : Attr) (r : Record) (a : Attr) (others more : List Attr) → attributes_of kind name r.attrs ≡ a ∷ others → is_attribute_of kind name new ≡ true → AllByRecursion (IsOther kind name) more
    → used_after more (record { head = r.head; attrs = with_stream kind name new r.attrs }) ≡ used_after (more ++ new ∷ []) r
unfolding attributes_of
beside kind name new r a others more is own differ =
    let q : Attr → Bool = λ x. not (is_replaced more x) in
    let some = some_by (filter (is_attribute_of kind name) r.attrs) a others is in
    let here : q new ≡ true = ap not (some_replaced more kind name new own differ) in
    let bytes = one_bytes q kind name new r.attrs some.0 some.1 here some.2 in
    let after = after_bytes more (record { head = r.head; attrs = with_stream kind name new r.attrs }) in
    let all = one_more more new r in
    let stream = attribute_kind kind name new own in
    let left : (kind : ℕ) (name : List ℕ) → ℕ = λ k n. spelled_bytes (filter (λ (x : Attr). not (is_attribute_of k n x) && q x) r.attrs) in
    let same : left new.head.kind new.name ≡ left kind name = ap (λ (k : ℕ). left k new.name) stream.0 ∙ ap (λ (n : List ℕ). left kind n) stream.1 in
    omega (arith, bytes, after, all, same)

-- ---- a stream that is there

pub placed_is : (per : ℕ) (kind : ℕ) (name : List ℕ) (e : Extents) (a : Attr) → is_attribute_of kind name a ≡ true → is_attribute_of kind name (written_attr per e a) ≡ true
unfolding is_attribute_of
placed_is per kind name e a is = is

valued_is : (kind : ℕ) (name value : List ℕ) (a : Attr) → is_attribute_of kind name a ≡ true → is_attribute_of kind name (valued_attr value a) ≡ true
unfolding is_attribute_of
valued_is kind name value a is = is

placed_length : (per : ℕ) (e : Extents) (a : Attr) → length (spelling (written_attr per e a)) ≡ length (spelling (placed_attr e.real e.initialised e.runs a))
placed_length per e a =
    let held = held_alike (is_compressed_or_sparse a.head.flags) (held_clusters e.runs * (512 * per)) (4096 * total_clusters e.runs) in
    length-spelling (written_attr per e a)
    ∙ ap (λ (n : ℕ). whole_length (0x40 + n) (length a.name) (length (pairs_of e.runs))) held
    ∙ sym (length-spelling (placed_attr e.real e.initialised e.runs a))

valued_length : (value : List ℕ) (a : Attr) → length (spelling (valued_attr value a)) ≡ length (spelling (value_attr (length value) a))
valued_length value a =
    length-spelling (valued_attr value a)
    ∙ ap (whole_length 0x18 (length a.name)) (sym (length-zeros (length value)))
    ∙ sym (length-spelling (value_attr (length value) a))

placed_beside : (per kind : ℕ) (name : List ℕ) (e : Extents) (r : Record) (a : Attr) (others more : List Attr) → attributes_of kind name r.attrs ≡ a ∷ others → AllByRecursion (IsOther kind name) more
    → used_after more (placed_record per kind name e r) ≡ used_after (more ++ placed_attr e.real e.initialised e.runs (own_attr kind name r) ∷ []) r
unfolding own_attr
placed_beside per kind name e r a others more is differ =
    let own = placed_is per kind name e a (first_passes kind name r.attrs a others is) in
    ap (λ (l : List Attr). used_after more (placed_first per kind name e r l)) is
    ∙ beside kind name (written_attr per e a) r a others more is own differ
    ∙ alike more (written_attr per e a) (placed_attr e.real e.initialised e.runs a) r refl refl (placed_length per e a)
    ∙ ap (λ (l : List Attr). used_after (more ++ placed_attr e.real e.initialised e.runs (first_or (new_attr kind name) l) ∷ []) r) (sym is)

valued_beside : (kind : ℕ) (name value : List ℕ) (r : Record) (a : Attr) (others more : List Attr) → attributes_of kind name r.attrs ≡ a ∷ others → AllByRecursion (IsOther kind name) more
    → used_after more (valued_record kind name value r) ≡ used_after (more ++ value_attr (length value) (own_attr kind name r) ∷ []) r
unfolding own_attr
valued_beside kind name value r a others more is differ =
    let own = valued_is kind name value a (first_passes kind name r.attrs a others is) in
    ap (λ (l : List Attr). used_after more (valued_first kind name value r l)) is
    ∙ beside kind name (valued_attr value a) r a others more is own differ
    ∙ alike more (valued_attr value a) (value_attr (length value) a) r refl refl (valued_length value a)
    ∙ ap (λ (l : List Attr). used_after (more ++ value_attr (length value) (first_or (new_attr kind name) l) ∷ []) r) (sym is)

-- ---- a stream that isn't there yet

none_put : (a : Attr) (attributes : List Attr) → with_attribute a attributes ≡ [] → ⊥
none_put a [] none = absurd cc
none_put a (b ∷ attributes) none = by_first (nat_lt (first_vcn a) (first_vcn b)) none
  where
    by_first : (t : Bool) → cond t (a ∷ b ∷ attributes) (b ∷ with_attribute a attributes) ≡ [] → ⊥
    by_first true none = absurd cc
    by_first false none = absurd cc

some_stays : (attributes attrs : List Attr) → sorted_into attributes attrs ≡ [] → attributes ≡ []
some_stays attributes [] none = none
some_stays attributes (a ∷ attrs) none = absurd (none_put a attributes (some_stays (with_attribute a attributes) attrs none))

pub none_sorted : (attrs : List Attr) → sorted_into [] attrs ≡ [] → attrs ≡ []
none_sorted [] none = refl
none_sorted (a ∷ attrs) none = absurd (none_put a [] (some_stays (with_attribute a []) attrs none))

own_made : (new : Attr) → is_attribute_of new.head.kind new.name new ≡ true
unfolding is_attribute_of
own_made new = ap (λ (t : Bool). t && pointwise nat_eq new.name new.name) (eq-eqb new.head.kind new.head.kind refl) ∙ same_test new.name
  where
    same_test : (xs : List ℕ) → pointwise nat_eq xs xs ≡ true
    same_test [] = refl
    same_test (x ∷ xs) = ap (λ (t : Bool). t && pointwise nat_eq xs xs) (eq-eqb x x refl) ∙ same_test xs

-- a test of replacement sees an attribute as its normal one
normal_replaced : (more : List Attr) (new : Attr) → is_replaced more (normal new) ≡ is_replaced more new
unfolding is_attribute_of
normal_replaced [] new = refl
normal_replaced (b ∷ more) new = ap (λ (t : Bool). is_attribute_of b.head.kind b.name new || t) (normal_replaced more new)

made_beside : (new : Attr) (r : Record) (more : List Attr) → attributes_of new.head.kind new.name r.attrs ≡ [] → AllByRecursion (IsOther new.head.kind new.name) more → used_after more (with_normal r (new ∷ [])) ≡ used_after (more ++ new ∷ []) r
unfolding attributes_of
made_beside new r more is differ =
    let q : Attr → Bool = λ x. not (is_replaced more x) in
    let here : q (normal new) ≡ true = ap not (normal_replaced more new ∙ some_replaced more new.head.kind new.name new (own_made new) differ) in
    let none = none_sorted (filter (is_attribute_of new.head.kind new.name) r.attrs) is in
    let after = after_bytes more (with_normal r (new ∷ [])) in
    let parts = ap spelled_bytes (filter-append q r.attrs (normal new ∷ []) ∙ ap (λ (l : List Attr). filter q r.attrs ++ l) (filter_yes q (normal new) [] here)) in
    let sum = bytes-append (filter q r.attrs) (normal new ∷ []) in
    let size = normal_length new in
    let left = ap spelled_bytes (none_bytes q new.head.kind new.name r.attrs none) in
    let all = one_more more new r in
    omega (arith, after, parts, sum, size, left, all)

-- ---- the laws

pub none_comes : (r : Record) → used_after [] r ≡ written_bytes r
none_comes r = used_bytes.none r ∙ sym (written_used r)

own_placed : (per kind other : ℕ) (name alias : List ℕ) (e : Extents) (r : Record) → (other ≢ kind) ⊎ (alias ≢ name) → own_attr other alias (placed_record per kind name e r) ≡ own_attr other alias r
unfolding own_attr
own_placed per kind other name alias e r differ = ap (first_or (new_attr other alias)) (placed_others per kind other name alias e r differ)

own_valued : (kind other : ℕ) (name alias value : List ℕ) (r : Record) → (other ≢ kind) ⊎ (alias ≢ name) → own_attr other alias (valued_record kind name value r) ≡ own_attr other alias r
unfolding own_attr
own_valued kind other name alias value r differ = ap (first_or (new_attr other alias)) (values_put.others kind other name alias value r differ)

any_order : (attrs others : List Attr) (r : Record) → IsPermutation attrs others → used_after others r ≡ used_after attrs r
unfolding used_after attrs_with
any_order attrs others r same =
    let left : List Attr → List Attr = λ l. filter (λ (a : Attr). not (is_replaced l a)) r.attrs in
    let stay : left others ≡ left attrs = filter_agree (λ (a : Attr). not (is_replaced others a)) (λ (a : Attr). not (is_replaced attrs a)) (λ a. ap not (sym (list_any-IsPermutation (λ (b : Attr). is_attribute_of b.head.kind b.name a) attrs others same))) r.attrs in
    ap (λ (l : List Attr). used_of (others ++ l)) stay ∙ used_bytes.order (attrs ++ left attrs) (others ++ left attrs) (IsPermutation-append_left (left attrs) attrs others same)

pub together : StreamsUsedTogether
together = record {
  none = none_comes;
  placed = placed_beside;
  valued = valued_beside;
  made = made_beside;
  own_placed = own_placed;
  own_valued = own_valued;
  order = any_order;
}

pub used : StreamsUsed
used = record {
  placed = λ per kind name e r a others is. sym (none_comes (placed_record per kind name e r)) ∙ placed_beside per kind name e r a others [] is tt;
  valued = λ kind name value r a others is. sym (none_comes (valued_record kind name value r)) ∙ valued_beside kind name value r a others [] is tt;
  made = λ new r is. sym (none_comes (with_normal r (new ∷ []))) ∙ made_beside new r [] is tt;
}
