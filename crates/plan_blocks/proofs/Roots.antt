-- The root of a directory's index in its record, written anew.
use Rattle.std.proofs.Common.{◌≡◌, ◌⊎◌, ℕ, ◌+◌, ◌%◌, ◌<◌, Bool, true, false, not, ◌&&◌, cond, eqb, ltb, List, [], ◌∷◌, map, Some, refl, sym, ap, subst, ◌∙◌, inl, inr, arith}
use Rattle.std.specs.Prelude.{filter, find}
use Rattle.std.specs.List.{list_all, AllByRecursion}
use Rattle.std.specs.Option.{option_map}
use Rattle.std.proofs.lemmas.Bool.{cases_Bool, and_parts, and_from, ltb-true}
use Rattle.record_model.specs.declared.attribute.Attr.{Attr}
use Rattle.record_model.specs.declared.attribute.OwnForm.{OwnForm}
use Rattle.record_model.specs.declared.attribute.OwnForm.TheVariants.{Resident, Mapped}
use Rattle.record_model.specs.Constants.{index_root, names_index}
use Rattle.record_model.specs.Records.{Record}
use Rattle.record_writer.specs.Normal.{normal_form, normal}
use Rattle.state_model.specs.Indexes.{is_names_root}
use Rattle.state_model.specs.Loads.{total_clusters, has_fitting_pairs, has_all_pairs}
use Rattle.state_model.specs.Streams.{is_attribute_of, first_vcn, with_attribute, sorted_into, attributes_of, attribute_runs, form_first, form_runs}
use Rattle.state_model.specs.declared.stream.Extents.{Extents}
use Rattle.volume_model.specs.Indexes.{form_value, attr_value, root_value}
use Rattle.volume_model.specs.Sizes.{are_joined, follow, keeps_stream}
use Rattle.plan_edits.specs.plan_model.Attributes.{IsValue, IsRewritten, AreRewritten, RewritesValues}
use Rattle.plan_edits.proofs.plan_model.Rewriting.{all_same}
use Rattle.plan_edits.specs.record_streams.Placing.{without_stream, with_stream}
use Rattle.plan_edits.proofs.record_streams.Streams.{attribute_kind, own_with}
use Rattle.record_values.specs.Values.{valued_attr, valued_first}
use Rattle.plan_edits.specs.draft_records.Records.{written_record}
use Rattle.plan_edits.proofs.plan_growth.Placed.{stream_rule}
use Rattle.plan_edits.proofs.plan_values.Made.{none_pass}
use Rattle.plan_edits.specs.Written.{IsInUse}
use Rattle.plan_blocks.specs.Blocks.{beside_blocks}
use Rattle.plan_blocks.specs.Levels.{is_index_root}
use Rattle.plan_blocks.specs.Rooted.{rooted, RootsWritten}
use Rattle.plan_blocks.specs.Written.{MakesBlocks}
use Rattle.plan_blocks.proofs.Beside.{filter_bare, no_root}

-- ---- attributes of a stream, and those that a sort has

abbrev root : Attr → Bool
root a = is_attribute_of index_root names_index a

put_all : (P : Attr → Type 0) (a : Attr) (attributes : List Attr) → AllByRecursion P (with_attribute a attributes) → P a × AllByRecursion P attributes
put_all P a [] all = (all.0, tt)
put_all P a (b ∷ attributes) all = by (ltb (first_vcn a) (first_vcn b)) (put_all P a attributes) all
  where
    by : (t : Bool) → (AllByRecursion P (with_attribute a attributes) → P a × AllByRecursion P attributes) → AllByRecursion P (cond t (a ∷ b ∷ attributes) (b ∷ with_attribute a attributes)) → P a × AllByRecursion P (b ∷ attributes)
    by true next all = (all.0, all.1)
    by false next all = (let rest = next all.1 in (rest.0, (all.0, rest.1)))

sorted_all : (P : Attr → Type 0) (attributes attrs : List Attr) → AllByRecursion P (sorted_into attributes attrs) → AllByRecursion P attributes × AllByRecursion P attrs
sorted_all P attributes [] all = (all, tt)
sorted_all P attributes (a ∷ attrs) all =
    let rest = sorted_all P (with_attribute a attributes) attrs all in
    let both = put_all P a attributes rest.0 in
    (both.1, (both.0, rest.1))

abbrev HasClusters : Attr → Type 0
HasClusters a = 0 < total_clusters (attribute_runs a)

follow_all : (vcn : ℕ) (attributes : List Attr) → follow vcn attributes ≡ true → AllByRecursion HasClusters attributes
follow_all vcn [] is = tt
follow_all vcn (a ∷ attributes) is =
    let parts = and_parts (eqb (first_vcn a) vcn && ltb 0 (total_clusters (attribute_runs a))) (follow (vcn + total_clusters (attribute_runs a)) attributes) is in
    let first = and_parts (eqb (first_vcn a) vcn) (ltb 0 (total_clusters (attribute_runs a))) parts.0 in
    (ltb-true 0 (total_clusters (attribute_runs a)) first.1, follow_all (vcn + total_clusters (attribute_runs a)) attributes parts.1)

no_clusters : (form : OwnForm) → IsValue form → total_clusters (form_runs form) ≡ 0
no_clusters (Resident value indexed) is = refl
no_clusters (Mapped sizes pairs) is = absurd is

none_of_value : (a : Attr) → IsValue a.form → HasClusters a → ⊥
unfolding attribute_runs
none_of_value a is has = (let none = no_clusters a.form is in omega (arith, none, has))

-- ---- one attribute that passes

two_sorted : (a x y : Attr) (attributes attrs : List Attr) → sorted_into (x ∷ y ∷ attributes) attrs ≡ a ∷ [] → ⊥
two_sorted a x y attributes [] one = absurd cc
two_sorted a x y attributes (z ∷ attrs) one = elim (cases_Bool (ltb (form_first z.form) (form_first x.form))) [
  | inl before ↦ two_sorted a z x (y ∷ attributes) attrs (sym (ap (λ (t : Bool). sorted_into (cond t (z ∷ x ∷ y ∷ attributes) (x ∷ with_attribute z (y ∷ attributes))) attrs) before) ∙ one)
  | inr behind ↦ (let next = sym (ap (λ (t : Bool). sorted_into (cond t (z ∷ x ∷ y ∷ attributes) (x ∷ with_attribute z (y ∷ attributes))) attrs) behind) ∙ one in elim (cases_Bool (ltb (form_first z.form) (form_first y.form))) [
    | inl first ↦ two_sorted a x z (y ∷ attributes) attrs (sym (ap (λ (t : Bool). sorted_into (x ∷ cond t (z ∷ y ∷ attributes) (y ∷ with_attribute z attributes)) attrs) first) ∙ next)
    | inr last ↦ two_sorted a x y (with_attribute z attributes) attrs (sym (ap (λ (t : Bool). sorted_into (x ∷ cond t (z ∷ y ∷ attributes) (y ∷ with_attribute z attributes)) attrs) last) ∙ next)
  ])
]

one_sorted : (a : Attr) (attrs : List Attr) → sorted_into [] attrs ≡ a ∷ [] → attrs ≡ a ∷ []
one_sorted a [] one = absurd cc
one_sorted a (x ∷ []) one = one
one_sorted a (x ∷ y ∷ attrs) one = elim (cases_Bool (ltb (form_first y.form) (form_first x.form))) [
  | inl before ↦ absurd (two_sorted a y x [] attrs (sym (ap (λ (t : Bool). sorted_into (cond t (y ∷ x ∷ []) (x ∷ y ∷ [])) attrs) before) ∙ one))
  | inr behind ↦ absurd (two_sorted a x y [] attrs (sym (ap (λ (t : Bool). sorted_into (cond t (y ∷ x ∷ []) (x ∷ y ∷ [])) attrs) behind) ∙ one))
]

-- the root's value is one attribute
pub record IsFirst (attrs : List Attr) (value : List ℕ) : Type 0 where
  pub attr : Attr
  pub others : List Attr
  pub filtered : filter root attrs ≡ attr ∷ others
  pub form : form_value attr.form ≡ Some value

first_value : (attrs : List Attr) (value : List ℕ) → attr_value (find root attrs) ≡ Some value → IsFirst attrs value
first_value [] value is = absurd cc
first_value (a ∷ attrs) value is = elim (cases_Bool (root a)) [
  | inl passes ↦ record {
    attr = a;
    others = filter root attrs;
    filtered = ap (λ (t : Bool). cond t (a ∷ filter root attrs) (filter root attrs)) passes;
    form = sym (ap (λ (t : Bool). attr_value (cond t (Some a) (find root attrs))) passes) ∙ is;
  }
  | inr fails ↦
      (let rest = first_value attrs value (sym (ap (λ (t : Bool). attr_value (cond t (Some a) (find root attrs))) fails) ∙ is) in
      record { attr = rest.attr; others = rest.others; filtered = ap (λ (t : Bool). cond t (a ∷ filter root attrs) (filter root attrs)) fails ∙ rest.filtered; form = rest.form })
]

found_first : (b : Attr) (rest attrs : List Attr) → filter root attrs ≡ b ∷ rest → find root attrs ≡ Some b
found_first b rest [] is = absurd cc
found_first b rest (a ∷ attrs) is = elim (cases_Bool (root a)) [
  | inl passes ↦
      (let same : a ∷ filter root attrs ≡ b ∷ rest = sym (ap (λ (t : Bool). cond t (a ∷ filter root attrs) (filter root attrs)) passes) ∙ is in
      let first : a ≡ b = cc in
      ap (λ (t : Bool). cond t (Some a) (find root attrs)) passes ∙ ap Some first)
  | inr fails ↦ ap (λ (t : Bool). cond t (Some a) (find root attrs)) fails ∙ found_first b rest attrs (sym (ap (λ (t : Bool). cond t (a ∷ filter root attrs) (filter root attrs)) fails) ∙ is)
]

value_form : (form : OwnForm) (value : List ℕ) → form_value form ≡ Some value → IsValue form
value_form (Resident bytes indexed) value is = tt
value_form (Mapped sizes pairs) value is = absurd cc

pub record OneRoot (r : Record) (value : List ℕ) : Type 0 where
  pub attr : Attr
  pub listed : attributes_of index_root names_index r.attrs ≡ attr ∷ []
  pub filtered : filter root r.attrs ≡ attr ∷ []
  pub is_value : IsValue attr.form

module _ (per clusters : ℕ) (r : Record) (value : List ℕ) (rule : list_all (keeps_stream per clusters r.attrs) r.attrs ≡ true) (is : root_value r ≡ Some value) where
  found : IsFirst r.attrs value
  unfolding root_value is_names_root is_attribute_of
  found = first_value r.attrs value is

  stands : IsValue found.attr.form
  stands = value_form found.attr.form value found.form

  never : AllByRecursion HasClusters (sorted_into [] (filter root r.attrs)) → ⊥
  never all = none_of_value found.attr stands (subst (AllByRecursion HasClusters) found.filtered (sorted_all HasClusters [] (filter root r.attrs) all).1).0

  by_list : (attributes : List Attr) → attributes_of index_root names_index r.attrs ≡ attributes → OneRoot r value
  unfolding attributes_of
  by_list [] are = absurd (never (subst (AllByRecursion HasClusters) (sym are) tt))
  by_list (a ∷ []) are =
      let one = one_sorted a (filter root r.attrs) are in
      let two : found.attr ∷ found.others ≡ a ∷ [] = sym found.filtered ∙ one in
      let same : found.attr ≡ a = cc in
      record { attr = a; listed = are; filtered = one; is_value = subst (λ (b : Attr). IsValue b.form) same stands }
  by_list (a ∷ b ∷ others) are =
      let joined = (stream_rule per clusters index_root names_index r a (b ∷ others) (λ e. omega (arith, e)) are rule).0 in
      let all = follow_all 0 (a ∷ b ∷ others) (sym (ap are_joined are) ∙ joined) in
      absurd (never (subst (AllByRecursion HasClusters) (sym are) all))

  pub one_root : OneRoot r value
  one_root = by_list (attributes_of index_root names_index r.attrs) refl

-- ---- another value

all_stay : (attrs : List Attr) → AllByRecursion (λ a. root a ≡ false) attrs → without_stream index_root names_index attrs ≡ attrs
all_stay [] none = refl
all_stay (a ∷ attrs) none =
    ap (λ (t : Bool). cond (not t) (a ∷ without_stream index_root names_index attrs) (without_stream index_root names_index attrs)) none.0 ∙ ap (λ (l : List Attr). a ∷ l) (all_stay attrs none.1)

head_is : (a x : Attr) (attrs others : List Attr) → x ∷ attrs ≡ a ∷ others → (x ≡ a) × (attrs ≡ others)
head_is a x attrs others is = (cc, cc)

rewritten : (value : List ℕ) (a : Attr) → IsValue a.form → IsRewritten a (valued_attr value a)
rewritten value a is = record { kind = refl; name = refl; old = is; new = tt }

put_anew : (value : List ℕ) (a : Attr) (attrs : List Attr) → IsValue a.form → filter root attrs ≡ a ∷ [] → AreRewritten root attrs (with_stream index_root names_index (valued_attr value a) attrs)
put_anew value a [] is one = absurd cc
put_anew value a (x ∷ attrs) is one = elim (cases_Bool (root x)) [
  | inl passes ↦
      (let parts = head_is a x (filter root attrs) [] (sym (ap (λ (t : Bool). cond t (x ∷ filter root attrs) (filter root attrs)) passes) ∙ one) in
      let rest = all_stay attrs (none_pass root attrs parts.1) in
      let here : IsRewritten x (valued_attr value a) = subst (λ (y : Attr). IsRewritten y (valued_attr value a)) (sym parts.0) (rewritten value a is) in
      subst (AreRewritten root (x ∷ attrs)) (sym (ap (λ (t : Bool). cond t (valued_attr value a ∷ without_stream index_root names_index attrs) (x ∷ with_stream index_root names_index (valued_attr value a) attrs)) passes ∙ ap (λ (l : List Attr). valued_attr value a ∷ l) rest))
      ((inr (passes, here), all_same root attrs)))
  | inr fails ↦
      subst (AreRewritten root (x ∷ attrs)) (sym (ap (λ (t : Bool). cond t (valued_attr value a ∷ without_stream index_root names_index attrs) (x ∷ with_stream index_root names_index (valued_attr value a) attrs)) fails))
      ((inl refl, put_anew value a attrs is (sym (ap (λ (t : Bool). cond t (x ∷ filter root attrs) (filter root attrs)) fails) ∙ one)))
]

-- what a filter keeps passes
first_root : (attrs : List Attr) (b : Attr) (rest : List Attr) → filter root attrs ≡ b ∷ rest → root b ≡ true
first_root [] b rest is = absurd cc
first_root (a ∷ attrs) b rest is = elim (cases_Bool (root a)) [
  | inl passes ↦
      (let same : a ∷ filter root attrs ≡ b ∷ rest = sym (ap (λ (t : Bool). cond t (a ∷ filter root attrs) (filter root attrs)) passes) ∙ is in
      let first : a ≡ b = cc in
      sym (ap root first) ∙ passes)
  | inr fails ↦ first_root attrs b rest (sym (ap (λ (t : Bool). cond t (a ∷ filter root attrs) (filter root attrs)) fails) ∙ is)
]

root_kind : (a : Attr) → root a ≡ true → is_index_root a ≡ true
root_kind a is = ap (λ (k : ℕ). eqb k index_root) (attribute_kind index_root names_index a is).0

-- ---- as it is written

value_normal : (form : OwnForm) → IsValue form → IsValue (normal_form form)
value_normal (Resident value indexed) is = tt
value_normal (Mapped sizes pairs) is = absurd is

as_written : (attrs others : List Attr) → AreRewritten root attrs others → AreRewritten is_index_root (map normal attrs) (map normal others)
as_written [] [] all = tt
as_written [] (b ∷ others) all = absurd all
as_written (a ∷ attrs) [] all = absurd all
as_written (a ∷ attrs) (b ∷ others) all = (by all.0, as_written attrs others all.1)
  where
    by : (b ≡ a) ⊎ ((root a ≡ true) × IsRewritten a b) → (normal b ≡ normal a) ⊎ ((is_index_root (normal a) ≡ true) × IsRewritten (normal a) (normal b))
    by (inl same) = inl (ap normal same)
    by (inr anew) = inr (root_kind a anew.0, record { kind = anew.1.kind; name = anew.1.name; old = value_normal a.form anew.1.old; new = value_normal b.form anew.1.new })

value_fits : (a : Attr) → IsValue a.form → has_fitting_pairs a ≡ true
value_fits a is = by a.form is
  where
    by : (form : OwnForm) → IsValue form → has_fitting_pairs (record { head = a.head; name = a.name; form = form }) ≡ true
    by (Resident value indexed) is = refl
    by (Mapped sizes pairs) is = absurd is

all_fit : (attrs others : List Attr) → AreRewritten root attrs others → list_all has_fitting_pairs attrs ≡ true → list_all has_fitting_pairs others ≡ true
all_fit [] [] all fit = refl
all_fit [] (b ∷ others) all fit = absurd all
all_fit (a ∷ attrs) [] all fit = absurd all
all_fit (a ∷ attrs) (b ∷ others) all fit = (let parts = and_parts (has_fitting_pairs a) (list_all has_fitting_pairs attrs) fit in and_from (has_fitting_pairs b) (list_all has_fitting_pairs others) (by all.0 parts.0) (all_fit attrs others all.1 parts.1))
  where
    by : (b ≡ a) ⊎ ((root a ≡ true) × IsRewritten a b) → has_fitting_pairs a ≡ true → has_fitting_pairs b ≡ true
    by (inl same) fits = ap has_fitting_pairs same ∙ fits
    by (inr anew) fits = value_fits b anew.1.new

find_normal : (attrs : List Attr) → find root (map normal attrs) ≡ option_map normal (find root attrs)
unfolding is_attribute_of
find_normal [] = refl
find_normal (a ∷ attrs) = elim (cases_Bool (root a)) [
  | inl is ↦ ap (λ (t : Bool). cond t (Some (normal a)) (find root (map normal attrs))) is ∙ sym (ap (λ (t : Bool). option_map normal (cond t (Some a) (find root attrs))) is)
  | inr is ↦ ap (λ (t : Bool). cond t (Some (normal a)) (find root (map normal attrs))) is ∙ find_normal attrs ∙ sym (ap (λ (t : Bool). option_map normal (cond t (Some a) (find root attrs))) is)
]

-- the attributes that are the root are the same in a record with other blocks
same_roots : (attrs : List Attr) → filter root (beside_blocks attrs) ≡ filter root attrs
unfolding is_names_root is_attribute_of
same_roots attrs = filter_bare is_names_root no_root attrs

module _ (per clusters : ℕ) (r p : Record) (f : Extents) (was new : List ℕ) (rule : list_all (keeps_stream per clusters r.attrs) r.attrs ≡ true) (is : root_value r ≡ Some was) (made : MakesBlocks r p f) where
  one : OneRoot r was
  one = one_root per clusters r was rule is

  filtered_there : filter root p.attrs ≡ one.attr ∷ []
  filtered_there = sym (same_roots p.attrs) ∙ ap (filter root) made.others ∙ same_roots r.attrs ∙ one.filtered

  listed : attributes_of index_root names_index p.attrs ≡ one.attr ∷ []
  unfolding attributes_of
  listed = ap (sorted_into []) filtered_there

  abbrev q : Record
  q = rooted new p

  abbrev anew : Attr
  anew = valued_attr new one.attr

  passes : root one.attr ≡ true
  passes = first_root p.attrs one.attr [] filtered_there

  q_is : q ≡ record { head = p.head; attrs = with_stream index_root names_index anew p.attrs }
  q_is = ap (valued_first index_root names_index new p) listed

  attrs_anew : AreRewritten root p.attrs q.attrs
  attrs_anew = subst (λ (x : Record). AreRewritten root p.attrs x.attrs) (sym q_is) (put_anew new one.attr p.attrs one.is_value filtered_there)

  rooted_values : RewritesValues is_index_root (written_record p) (written_record q)
  rooted_values = record {
    seq = ap (λ (x : Record). x.head.seq) q_is;
    flags = ap (λ (x : Record). x.head.flags) q_is;
    base = ap (λ (x : Record). x.head.base) q_is;
    attrs = as_written p.attrs q.attrs attrs_anew;
  }

  rooted_used : IsInUse p → IsInUse q
  unfolding has_all_pairs
  rooted_used used = record { flag = ap (λ (x : Record). x.head.flags % 2) q_is ∙ used.flag; pairs = all_fit p.attrs q.attrs attrs_anew used.pairs }

  anew_passes : root anew ≡ true
  unfolding is_attribute_of
  anew_passes = passes

  filtered_now : filter root q.attrs ≡ anew ∷ []
  filtered_now = ap (λ (x : Record). filter root x.attrs) q_is ∙ own_with index_root names_index anew p.attrs one.attr [] anew_passes filtered_there

  rooted_value : root_value (written_record q) ≡ Some new
  unfolding root_value is_names_root is_attribute_of
  rooted_value = ap attr_value (find_normal q.attrs ∙ ap (option_map normal) (found_first anew [] q.attrs filtered_now))

pub roots_written : RootsWritten
roots_written = record {
  values = rooted_values;
  used = rooted_used;
  value = rooted_value;
}
