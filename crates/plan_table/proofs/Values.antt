-- A record in which a value that stands there is another value.
use Rattle.std.proofs.Common.{◌≡◌, ◌≢◌, ◌⊎◌, ℕ, Bool, true, false, not, ◌&&◌, cond, eqb, ltb, List, [], ◌∷◌, ◌++◌, Some, refl, sym, ap, subst, ◌∙◌, inl, inr, arith}
use Rattle.std.specs.Prelude.{filter, All}
use Rattle.std.specs.List.{flat_map, sum_by}
use Rattle.std.proofs.lemmas.Bool.{cases_Bool, and_parts, both_ways, eqb-true, false_from_ne_true}
use Rattle.std.proofs.lemmas.List.Sums.{sum_by-cons}
use Rattle.std.proofs.lemmas.List.Elements.{All-nil, All-cons, All-head, All-tail}
use Rattle.record_model.specs.declared.attribute.Attr.{Attr}
use Rattle.record_model.specs.declared.attribute.OwnForm.{OwnForm}
use Rattle.record_model.specs.declared.attribute.OwnForm.TheVariants.{Resident, Mapped}
use Rattle.record_model.specs.declared.runs.Run.{Run}
use Rattle.record_model.specs.Constants.{index_root}
use Rattle.record_model.specs.Records.{Record}
use Rattle.plan_growth.specs.record_writer.Normal.{normal_form}
use Rattle.state_model.specs.declared.stream.Stream.TheVariants.{Held}
use Rattle.state_model.specs.Indexes.{is_names_root}
use Rattle.state_model.specs.Loads.{total_clusters}
use Rattle.state_model.specs.Streams.{first_vcn, form_runs, form_stream, is_attribute_of, sorted_into, attributes_of, attribute_runs, joined}
use Rattle.volume_model.specs.Owners.{uses}
use Rattle.volume_model.specs.Sizes.{are_joined}
use Rattle.stream_laws.proofs.Sharing.{attributes_sum, attribute_kind}
use Rattle.record_values.specs.record_streams.Placing.{without_stream, with_stream}
use Rattle.record_values.proofs.record_streams.Streams.{some_by}
use Rattle.record_values.specs.Values.{valued_attr, valued_first, valued_record}
use Rattle.plan_growth.specs.plan_model.Attributes.{IsValue, IsRewritten, AreRewritten, RewritesValues, SparesAll}
use Rattle.plan_growth.proofs.Written.{Reads}

-- ---- a value stands in one attribute

form_holds : (form : OwnForm) (runs : List Run) (value : List ℕ) → Some (form_stream form runs) ≡ Some (Held value) → IsValue form
form_holds (Resident bytes indexed) runs value is = tt
form_holds (Mapped sizes pairs) runs value is = absurd cc

value_runs : (form : OwnForm) → IsValue form → form_runs form ≡ []
value_runs (Resident value indexed) is = refl
value_runs (Mapped sizes pairs) is = absurd is

no_clusters : (a : Attr) → IsValue a.form → total_clusters (attribute_runs a) ≡ 0
unfolding attribute_runs
no_clusters a is = ap total_clusters (value_runs a.form is)

pub value_alone : (attributes : List Attr) (value : List ℕ) → joined attributes ≡ Some (Held value) → are_joined attributes ≡ true → (a : Attr) × (IsValue a.form × (attributes ≡ a ∷ []))
value_alone [] value held whole = absurd cc
value_alone (a ∷ []) value held whole = (a, (form_holds a.form (flat_map attribute_runs (a ∷ [])) value held, refl))
value_alone (a ∷ b ∷ more) value held whole =
    let is = form_holds a.form (flat_map attribute_runs (a ∷ b ∷ more)) value held in
    let some : ltb 0 (total_clusters (attribute_runs a)) ≡ true = (and_parts (eqb (first_vcn a) 0) (ltb 0 (total_clusters (attribute_runs a))) (and_parts (eqb (first_vcn a) 0 && ltb 0 (total_clusters (attribute_runs a))) _ whole).0).1 in
    absurd (both_ways (ltb 0 (total_clusters (attribute_runs a))) (ap (ltb 0) (no_clusters a is)) some)

-- so it has no clusters
pub alone_runs : (attributes : List Attr) (value : List ℕ) → joined attributes ≡ Some (Held value) → are_joined attributes ≡ true → (x : ℕ) → uses (flat_map attribute_runs attributes) x ≡ uses [] x
unfolding attribute_runs
alone_runs attributes value held whole x =
    let own = value_alone attributes value held whole in
    ap (λ (l : List Attr). uses (flat_map attribute_runs l) x) own.1.1 ∙ ap (λ (l : List Run). uses (l ++ []) x) (value_runs own.0.form own.1.0)

-- ---- the attributes of a record

one : Attr → ℕ
one a = 1

none_left : (attrs : List Attr) → sum_by one attrs ≡ 0 → attrs ≡ []
unfolding one
none_left [] is = refl
none_left (a ∷ attrs) is = (let sum = sum_by-cons one a attrs in absurd (omega (arith, is, sum)))

-- a stream of one attribute is that attribute
own_alone : (kind : ℕ) (name : List ℕ) (attrs : List Attr) (a : Attr) → attributes_of kind name attrs ≡ a ∷ [] → filter (is_attribute_of kind name) attrs ≡ a ∷ []
unfolding attributes_of one
own_alone kind name attrs a is =
    let first = some_by (filter (is_attribute_of kind name) attrs) a [] is in
    let sums = attributes_sum one kind name attrs in
    let as_one : sum_by one (attributes_of kind name attrs) ≡ sum_by one (a ∷ []) = ap (sum_by one) is in
    let as_more : sum_by one (filter (is_attribute_of kind name) attrs) ≡ sum_by one (first.0 ∷ first.1) = ap (sum_by one) first.2 in
    let one_is = sum_by-cons one a [] in
    let more_is = sum_by-cons one first.0 first.1 in
    let rest : first.1 ≡ [] = none_left first.1 (omega (arith, sums, as_one, as_more, one_is, more_is)) in
    let only : filter (is_attribute_of kind name) attrs ≡ first.0 ∷ [] = first.2 ∙ ap (λ (l : List Attr). first.0 ∷ l) rest in
    let same : first.0 ∷ [] ≡ a ∷ [] = sym (ap (sorted_into []) only) ∙ is in
    only ∙ same

none_without : (kind : ℕ) (name : List ℕ) (attrs : List Attr) → filter (is_attribute_of kind name) attrs ≡ [] → without_stream kind name attrs ≡ attrs
none_without kind name [] none = refl
none_without kind name (a ∷ attrs) none = elim (cases_Bool (is_attribute_of kind name a)) [
  | inl is ↦ (let some : a ∷ filter (is_attribute_of kind name) attrs ≡ [] = sym (ap (λ (t : Bool). cond t (a ∷ filter (is_attribute_of kind name) attrs) (filter (is_attribute_of kind name) attrs)) is) ∙ none in absurd cc)
  | inr is ↦
      (let rest : filter (is_attribute_of kind name) attrs ≡ [] = sym (ap (λ (t : Bool). cond t (a ∷ filter (is_attribute_of kind name) attrs) (filter (is_attribute_of kind name) attrs)) is) ∙ none in
      ap (λ (t : Bool). cond (not t) (a ∷ without_stream kind name attrs) (without_stream kind name attrs)) is ∙ ap (λ (l : List Attr). a ∷ l) (none_without kind name attrs rest))
]

themselves : (may : Attr → Bool) (attrs : List Attr) → AreRewritten may attrs attrs
themselves may [] = tt
themselves may (a ∷ attrs) = (inl refl, themselves may attrs)

rewritten : (kind : ℕ) (name value : List ℕ) (attrs : List Attr) (a : Attr) → IsValue a.form → filter (is_attribute_of kind name) attrs ≡ a ∷ [] → AreRewritten (is_attribute_of kind name) attrs (with_stream kind name (valued_attr value a) attrs)
rewritten kind name value [] a is_one alone = absurd cc
rewritten kind name value (x ∷ attrs) a is_one alone = elim (cases_Bool (is_attribute_of kind name x)) [
  | inl is ↦
      (let both : x ∷ filter (is_attribute_of kind name) attrs ≡ a ∷ [] = sym (ap (λ (t : Bool). cond t (x ∷ filter (is_attribute_of kind name) attrs) (filter (is_attribute_of kind name) attrs)) is) ∙ alone in
      let first : x ≡ a = cc in
      let rest : filter (is_attribute_of kind name) attrs ≡ [] = cc in
      let same : with_stream kind name (valued_attr value a) (x ∷ attrs) ≡ valued_attr value a ∷ attrs = ap (λ (t : Bool). cond t (valued_attr value a ∷ without_stream kind name attrs) (x ∷ with_stream kind name (valued_attr value a) attrs)) is ∙ ap (λ (l : List Attr). valued_attr value a ∷ l) (none_without kind name attrs rest) in
      subst (AreRewritten (is_attribute_of kind name) (x ∷ attrs)) (sym same) (inr (is, anew x first), themselves (is_attribute_of kind name) attrs))
  | inr is ↦
      (let rest : filter (is_attribute_of kind name) attrs ≡ a ∷ [] = sym (ap (λ (t : Bool). cond t (x ∷ filter (is_attribute_of kind name) attrs) (filter (is_attribute_of kind name) attrs)) is) ∙ alone in
      let same : with_stream kind name (valued_attr value a) (x ∷ attrs) ≡ x ∷ with_stream kind name (valued_attr value a) attrs = ap (λ (t : Bool). cond t (valued_attr value a ∷ without_stream kind name attrs) (x ∷ with_stream kind name (valued_attr value a) attrs)) is in
      subst (AreRewritten (is_attribute_of kind name) (x ∷ attrs)) (sym same) (inl refl, rewritten kind name value attrs a is_one rest))
]
  where
    anew : (y : Attr) → y ≡ a → IsRewritten y (valued_attr value a)
    anew y same = record {
      kind = ap (λ (b : Attr). b.head.kind) (sym same);
      name = ap (λ (b : Attr). b.name) (sym same);
      old = subst (λ (b : Attr). IsValue b.form) (sym same) is_one;
      new = tt;
    }

-- ---- the record

pub valued_as : (kind : ℕ) (name value : List ℕ) (r : Record) (a : Attr) → attributes_of kind name r.attrs ≡ a ∷ [] → valued_record kind name value r ≡ record { head = r.head; attrs = with_stream kind name (valued_attr value a) r.attrs }
valued_as kind name value r a is = ap (valued_first kind name value r) is

pub rewrites_value : (kind : ℕ) (name value : List ℕ) (r : Record) (a : Attr) → IsValue a.form → attributes_of kind name r.attrs ≡ a ∷ [] → RewritesValues (is_attribute_of kind name) r (valued_record kind name value r)
rewrites_value kind name value r a is_one is =
    let same = valued_as kind name value r a is in
    subst (RewritesValues (is_attribute_of kind name) r) (sym same)
    (record {
      seq = refl;
      flags = refl;
      base = refl;
      attrs = rewritten kind name value r.attrs a is_one (own_alone kind name r.attrs a is);
    })

-- ---- which attributes are spared

pub spares_type : (kind : ℕ) (name : List ℕ) (t : ℕ) → t ≢ kind → SparesAll (is_attribute_of kind name) (λ a. eqb a.head.kind t)
spares_type kind name t differ a is = false_from_ne_true (is_attribute_of kind name a) (λ own. differ (sym (eqb-true a.head.kind t is) ∙ (attribute_kind kind name a own).0))

left_of : (s t : Bool) → (s && t) ≡ true → s ≡ true
left_of true t e = refl
left_of false t e = e

pub spares_root : (kind : ℕ) (name : List ℕ) → index_root ≢ kind → SparesAll (is_attribute_of kind name) is_names_root
unfolding is_names_root
spares_root kind name differ a is = spares_type kind name index_root differ a (left_of (eqb a.head.kind index_root) _ is)

pub spares_other : (kind other : ℕ) (name alias : List ℕ) → (other ≢ kind) ⊎ (alias ≢ name) → SparesAll (is_attribute_of kind name) (is_attribute_of other alias)
spares_other kind other name alias differ a is = false_from_ne_true (is_attribute_of kind name a) (λ own. elim differ [
  | inl kinds ↦ kinds (sym (attribute_kind other alias a is).0 ∙ (attribute_kind kind name a own).0)
  | inr names ↦ names (sym (attribute_kind other alias a is).1 ∙ (attribute_kind kind name a own).1)
])

-- ---- its runs are read so

value_reads : (form : OwnForm) → IsValue form → form_runs (normal_form form) ≡ form_runs form
value_reads (Resident value indexed) is = refl
value_reads (Mapped sizes pairs) is = absurd is

new_reads : (a : Attr) → IsValue a.form → Reads a
unfolding attribute_runs
new_reads a is = value_reads a.form is

pub reads_rewritten : (may : Attr → Bool) (attrs others : List Attr) → AreRewritten may attrs others → All Reads attrs → All Reads others
reads_rewritten may [] [] are all = All-nil Reads
reads_rewritten may [] (b ∷ others) are all = absurd are
reads_rewritten may (a ∷ attrs) [] are all = absurd are
reads_rewritten may (a ∷ attrs) (b ∷ others) are all = All-cons Reads b others (first are.0) (reads_rewritten may attrs others are.1 (All-tail Reads a attrs all))
  where
    first : (b ≡ a) ⊎ ((may a ≡ true) × IsRewritten a b) → Reads b
    first (inl same) = subst Reads (sym same) (All-head Reads a attrs all)
    first (inr anew) = new_reads b anew.1.new
