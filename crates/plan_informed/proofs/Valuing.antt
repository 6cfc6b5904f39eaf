-- A record with another value of its unnamed data.
use Rattle.std.proofs.Common.{◌≡◌, ◌⊎◌, ℕ, ◌+◌, Bool, true, false, not, ◌&&◌, cond, eqb, ltb, List, [], ◌∷◌, Some, refl, sym, ap, subst, ◌∙◌, inl, inr, arith}
use Rattle.std.specs.Prelude.{filter}
use Rattle.std.specs.List.{flat_map, AllByRecursion}
use Rattle.std.proofs.lemmas.Bool.{and_parts, both_ways, cases_Bool}
use Rattle.disk_model.specs.Content.{Content}
use Rattle.plan_edits.specs.record_model.declared.attribute.Attr.{Attr}
use Rattle.plan_edits.specs.record_model.declared.attribute.OwnForm.{OwnForm}
use Rattle.plan_edits.specs.record_model.declared.attribute.OwnForm.TheVariants.{Resident, Mapped}
use Rattle.plan_edits.specs.record_model.declared.runs.Run.{Run}
use Rattle.plan_edits.specs.record_model.Constants.{data_type}
use Rattle.plan_edits.specs.record_model.Records.{Record}
use Rattle.plan_edits.specs.state_model.declared.geometry.Geometry.{Geometry}
use Rattle.plan_edits.specs.state_model.declared.stream.Stream.{Stream}
use Rattle.plan_edits.specs.state_model.declared.stream.Stream.TheVariants.{Held}
use Rattle.plan_edits.specs.state_model.Loads.{total_clusters}
use Rattle.plan_edits.specs.state_model.Streams.{is_attribute_of, with_attribute, sorted_into, attributes_of, attribute_runs, joined, form_stream, form_runs, form_first, stream_of}
use Rattle.plan_edits.specs.volume_model.Volumes.{Volume}
use Rattle.plan_edits.specs.volume_model.Nodes.{first_flags, data_flags}
use Rattle.plan_edits.specs.volume_model.Sizes.{are_joined, follow}
use Rattle.plan_edits.specs.plan_owners.States.{Stands}
use Rattle.plan_edits.specs.plan_model.Attributes.{IsValue, IsRewritten, AreRewritten, RewritesValues}
use Rattle.plan_edits.proofs.plan_model.Rewriting.{all_same}
use Rattle.record_values.specs.record_streams.Placing.{without_stream, with_stream}
use Rattle.record_values.specs.Values.{valued_attr, valued_first}
use Rattle.record_values.proofs.Valued.{values_put}
use Rattle.plan_edits.specs.plan_growth.Streams.{IsOwnStream}
use Rattle.plan_edits.proofs.plan_growth.Placed.{some_attributes}
use Rattle.plan_edits.proofs.plan_growth.Ruled.{stream_joined}
use Rattle.plan_edits.specs.plan_values.Values.{is_data, IsOwnFile}
use Rattle.plan_edits.proofs.plan_values.Valued.{entries_named}
use Rattle.plan_edits.proofs.plan_values.Made.{none_pass}
use Rattle.plan_informed.specs.Valued.{with_value, ValuedRewrites}

-- ---- a stream of one attribute

value_of : (form : OwnForm) (runs : List Run) (was : List ℕ) → form_stream form runs ≡ Held was → IsValue form
value_of (Resident value indexed) runs was is = tt
value_of (Mapped sizes pairs) runs was is = absurd cc

no_clusters : (form : OwnForm) → IsValue form → total_clusters (form_runs form) ≡ 0
no_clusters (Resident value indexed) is = refl
no_clusters (Mapped sizes pairs) is = absurd is

some_is : (x y : Stream) → Some x ≡ Some y → x ≡ y
some_is x y is = cc

-- a value is one attribute, as more of them have clusters
alone : (a : Attr) (others : List Attr) → IsValue a.form → are_joined (a ∷ others) ≡ true → others ≡ []
unfolding attribute_runs
alone a [] is rule = refl
alone a (b ∷ others) is rule =
    let some : ltb 0 (total_clusters (form_runs a.form)) ≡ true = (and_parts (eqb (form_first a.form) 0) (ltb 0 (total_clusters (form_runs a.form))) (and_parts (eqb (form_first a.form) 0 && ltb 0 (total_clusters (form_runs a.form))) (follow (0 + total_clusters (form_runs a.form)) (b ∷ others)) rule).0).1 in
    let none : ltb 0 (total_clusters (form_runs a.form)) ≡ false = ap (ltb 0) (no_clusters a.form is) in
    absurd (both_ways (ltb 0 (total_clusters (form_runs a.form))) none some)

-- ---- one attribute that passes

two_sorted : (a x y : Attr) (attributes attrs : List Attr) → sorted_into (x ∷ y ∷ attributes) attrs ≡ a ∷ [] → ⊥
two_sorted a x y attributes [] one = absurd cc
two_sorted a x y attributes (z ∷ attrs) one = elim (cases_Bool (ltb (form_first z.form) (form_first x.form))) [
  | inl before ↦ two_sorted a z x (y ∷ attributes) attrs (sym (ap (λ (t : Bool). sorted_into (cond t (z ∷ x ∷ y ∷ attributes) (x ∷ with_attribute z (y ∷ attributes))) attrs) before) ∙ one)
  | inr behind ↦ (let next = sym (ap (λ (t : Bool). sorted_into (cond t (z ∷ x ∷ y ∷ attributes) (x ∷ with_attribute z (y ∷ attributes))) attrs) behind) ∙ one in elim (cases_Bool (ltb (form_first z.form) (form_first y.form))) [
    | inl first ↦ two_sorted a x z (y ∷ attributes) attrs (sym (ap (λ (t : Bool). sorted_into (x ∷ cond t (z ∷ y ∷ attributes) (y ∷ with_attribute z attributes)) attrs) first) ∙ next)
    | inr last ↦ two_sorted a x y (with_attribute z attributes) attrs (sym (ap (λ (t : Bool). sorted_into (x ∷ cond t (z ∷ y ∷ attributes) (y ∷ with_attribute z attributes)) attrs) last) ∙ next)
  ])
]

one_sorted : (a : Attr) (attrs : List Attr) → sorted_into [] attrs ≡ a ∷ [] → attrs ≡ a ∷ []
one_sorted a [] one = absurd cc
one_sorted a (x ∷ []) one = one
one_sorted a (x ∷ y ∷ attrs) one = elim (cases_Bool (ltb (form_first y.form) (form_first x.form))) [
  | inl before ↦ absurd (two_sorted a y x [] attrs (sym (ap (λ (t : Bool). sorted_into (cond t (y ∷ x ∷ []) (x ∷ y ∷ [])) attrs) before) ∙ one))
  | inr behind ↦ absurd (two_sorted a x y [] attrs (sym (ap (λ (t : Bool). sorted_into (cond t (y ∷ x ∷ []) (x ∷ y ∷ [])) attrs) behind) ∙ one))
]

all_stay : (kind : ℕ) (name : List ℕ) (attrs : List Attr) → AllByRecursion (λ a. is_attribute_of kind name a ≡ false) attrs → without_stream kind name attrs ≡ attrs
all_stay kind name [] none = refl
all_stay kind name (a ∷ attrs) none =
    ap (λ (t : Bool). cond (not t) (a ∷ without_stream kind name attrs) (without_stream kind name attrs)) none.0 ∙ ap (λ (l : List Attr). a ∷ l) (all_stay kind name attrs none.1)

head_is : (a x : Attr) (attrs others : List Attr) → x ∷ attrs ≡ a ∷ others → (x ≡ a) × (attrs ≡ others)
head_is a x attrs others is = (cc, cc)

rewritten : (value : List ℕ) (a : Attr) → IsValue a.form → IsRewritten a (valued_attr value a)
rewritten value a is = record { kind = refl; name = refl; old = is; new = tt }

put_anew : (value : List ℕ) (a : Attr) (attrs : List Attr) → IsValue a.form → filter is_data attrs ≡ a ∷ [] → AreRewritten is_data attrs (with_stream data_type [] (valued_attr value a) attrs)
put_anew value a [] is one = absurd cc
put_anew value a (x ∷ attrs) is one = elim (cases_Bool (is_data x)) [
  | inl passes ↦
      (let parts = head_is a x (filter is_data attrs) [] (sym (ap (λ (t : Bool). cond t (x ∷ filter is_data attrs) (filter is_data attrs)) passes) ∙ one) in
      let rest = all_stay data_type [] attrs (none_pass is_data attrs parts.1) in
      let here : IsRewritten x (valued_attr value a) = subst (λ (y : Attr). IsRewritten y (valued_attr value a)) (sym parts.0) (rewritten value a is) in
      subst (AreRewritten is_data (x ∷ attrs)) (sym (ap (λ (t : Bool). cond t (valued_attr value a ∷ without_stream data_type [] attrs) (x ∷ with_stream data_type [] (valued_attr value a) attrs)) passes ∙ ap (λ (l : List Attr). valued_attr value a ∷ l) rest))
      ((inr (passes, here), all_same is_data attrs)))
  | inr fails ↦
      subst (AreRewritten is_data (x ∷ attrs)) (sym (ap (λ (t : Bool). cond t (valued_attr value a ∷ without_stream data_type [] attrs) (x ∷ with_stream data_type [] (valued_attr value a) attrs)) fails))
      ((inl refl, put_anew value a attrs is (sym (ap (λ (t : Bool). cond t (x ∷ filter is_data attrs) (filter is_data attrs)) fails) ∙ one)))
]

-- ---- wider tests, and twice

all_wider : (may more : Attr → Bool) (attrs others : List Attr) → ((a : Attr) → may a ≡ true → more a ≡ true) → AreRewritten may attrs others → AreRewritten more attrs others
all_wider may more [] [] less all = tt
all_wider may more [] (b ∷ others) less all = absurd all
all_wider may more (a ∷ attrs) [] less all = absurd all
all_wider may more (a ∷ attrs) (b ∷ others) less all = (by all.0, all_wider may more attrs others less all.1)
  where
    by : (b ≡ a) ⊎ ((may a ≡ true) × IsRewritten a b) → (b ≡ a) ⊎ ((more a ≡ true) × IsRewritten a b)
    by (inl same) = inl same
    by (inr anew) = inr (less a anew.0, anew.1)

pub wider : (may more : Attr → Bool) (r p : Record) → ((a : Attr) → may a ≡ true → more a ≡ true) → RewritesValues may r p → RewritesValues more r p
wider may more r p less k = record { seq = k.seq; flags = k.flags; base = k.base; attrs = all_wider may more r.attrs p.attrs less k.attrs }

module _ (may : Attr → Bool) (reads : (a b : Attr) → b.head.kind ≡ a.head.kind → b.name ≡ a.name → may b ≡ may a) where
  both : (a b x : Attr) → (b ≡ a) ⊎ ((may a ≡ true) × IsRewritten a b) → (x ≡ b) ⊎ ((may b ≡ true) × IsRewritten b x) → (x ≡ a) ⊎ ((may a ≡ true) × IsRewritten a x)
  both a b x (inl first) (inl second) = inl (second ∙ first)
  both a b x (inl first) (inr second) = inr (subst (λ (y : Attr). (may y ≡ true) × IsRewritten y x) first second)
  both a b x (inr first) (inl second) = inr (subst (λ (y : Attr). (may a ≡ true) × IsRewritten a y) (sym second) first)
  both a b x (inr first) (inr second) = inr (first.0, record { kind = second.1.kind ∙ first.1.kind; name = second.1.name ∙ first.1.name; old = first.1.old; new = second.1.new })

  all_twice : (attrs others more : List Attr) → AreRewritten may attrs others → AreRewritten may others more → AreRewritten may attrs more
  all_twice [] [] [] first second = tt
  all_twice [] [] (x ∷ more) first second = absurd second
  all_twice [] (b ∷ others) more first second = absurd first
  all_twice (a ∷ attrs) [] more first second = absurd first
  all_twice (a ∷ attrs) (b ∷ others) [] first second = absurd second
  all_twice (a ∷ attrs) (b ∷ others) (x ∷ more) first second = (both a b x first.0 second.0, all_twice attrs others more first.1 second.1)

  twice : (r p q : Record) → RewritesValues may r p → RewritesValues may p q → RewritesValues may r q
  twice r p q first second = record { seq = second.seq ∙ first.seq; flags = second.flags ∙ first.flags; base = second.base ∙ first.base; attrs = all_twice r.attrs p.attrs q.attrs first.attrs second.attrs }

-- ---- in a state

first_of : (r : Record) (was : List ℕ) → stream_of data_type [] r.attrs ≡ Some (Held was) → (a : Attr) × (others : List Attr) × (attributes_of data_type [] r.attrs ≡ a ∷ others)
unfolding stream_of
first_of r was is = some_attributes (attributes_of data_type [] r.attrs) (Held was) is

first_value : (r : Record) (was : List ℕ) (a : Attr) (others : List Attr) → stream_of data_type [] r.attrs ≡ Some (Held was) → attributes_of data_type [] r.attrs ≡ a ∷ others → IsValue a.form
unfolding stream_of
first_value r was a others is pieces = value_of a.form (flat_map attribute_runs (a ∷ others)) was (some_is (form_stream a.form (flat_map attribute_runs (a ∷ others))) (Held was) (sym (ap joined pieces) ∙ is))

one_piece : (r : Record) (a : Attr) → attributes_of data_type [] r.attrs ≡ a ∷ [] → filter is_data r.attrs ≡ a ∷ []
unfolding attributes_of
one_piece r a pieces = one_sorted a (filter is_data r.attrs) pieces

module _ (c : Content) (g : Geometry) (clusters : ℕ) (v : Volume) (n : ℕ) (r : Record) (was value : List ℕ) (state : Stands c g clusters v) (own : IsOwnFile v n r) (is : stream_of data_type [] r.attrs ≡ Some (Held was)) where
  own_stream : IsOwnStream v n data_type [] r (Held was)
  own_stream = record {
    file = own.file;
    apart = own.apart;
    no_list = own.no_list;
    placeable = record { not_info = refl; not_name = refl };
    no_root = λ e. omega (arith, e);
    no_entries = inr entries_named;
    stream = is;
  }

  some : (a : Attr) × (others : List Attr) × (attributes_of data_type [] r.attrs ≡ a ∷ others)
  some = first_of r was is

  a_value : IsValue some.0.form
  a_value = first_value r was some.0 some.1 is some.2

  is_alone : some.1 ≡ []
  is_alone = alone some.0 some.1 a_value (sym (ap are_joined some.2) ∙ stream_joined c g clusters v n data_type [] r (Held was) state own_stream)

  one_is : attributes_of data_type [] r.attrs ≡ some.0 ∷ []
  one_is = some.2 ∙ ap (λ (l : List Attr). some.0 ∷ l) is_alone

  record_is : with_value value r ≡ record { head = r.head; attrs = with_stream data_type [] (valued_attr value some.0) r.attrs }
  record_is = ap (valued_first data_type [] value r) one_is

  values_are : RewritesValues is_data r (with_value value r)
  values_are = subst (RewritesValues is_data r) (sym record_is) (record { seq = refl; flags = refl; base = refl; attrs = put_anew value some.0 r.attrs a_value (one_piece r some.0 one_is) })

  flags_are : data_flags (with_value value r) ≡ data_flags r
  unfolding data_flags
  flags_are = ap first_flags (values_put.one data_type [] value r some.0 some.1 some.2) ∙ sym (ap first_flags one_is)

stream_is : (r : Record) (was value : List ℕ) → stream_of data_type [] r.attrs ≡ Some (Held was) → stream_of data_type [] (with_value value r).attrs ≡ Some (Held value)
stream_is r was value is = (let some = first_of r was is in values_put.stream data_type [] value r some.0 some.1 some.2)

pub value_rewrites : ValuedRewrites
value_rewrites = record {
  values = λ c g clusters v n r was value state own is. values_are c g clusters v n r was value state own is;
  flags = λ c g clusters v n r was value state own is. flags_are c g clusters v n r was value state own is;
  stream = stream_is;
  wider = wider;
  twice = λ may r p q reads first second. twice may reads r p q first second;
}
