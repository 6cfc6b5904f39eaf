-- A value of a record of a state is one attribute.
use Rattle.std.proofs.Common.{◌≡◌, ◌≢◌, ℕ, ◌+◌, ◌<◌, Bool, true, cond, ◌&&◌, eqb, ltb, List, [], ◌∷◌, Some, refl, sym, ap, ◌∙◌, inl, inr, arith}
use Rattle.std.specs.Prelude.{filter, find}
use Rattle.std.specs.List.{list_all}
use Rattle.std.proofs.lemmas.Bool.{cases_Bool, and_parts, ltb-true}
use Rattle.record_model.specs.declared.attribute.Attr.{Attr}
use Rattle.record_model.specs.declared.attribute.OwnForm.{OwnForm}
use Rattle.record_model.specs.declared.attribute.OwnForm.TheVariants.{Resident, Mapped}
use Rattle.record_model.specs.declared.runs.Run.{Run}
use Rattle.record_model.specs.Constants.{file_name, index_root, names_index}
use Rattle.record_model.specs.Records.{Record}
use Rattle.state_model.specs.declared.stream.Stream.TheVariants.{Held}
use Rattle.state_model.specs.Indexes.{is_names_root}
use Rattle.state_model.specs.Loads.{total_clusters}
use Rattle.state_model.specs.Streams.{is_attribute_of, attributes_of, attribute_runs, form_runs, form_first, form_stream, joined, stream_of, first_vcn, with_attribute, sorted_into}
use Rattle.volume_model.specs.Indexes.{form_value, attr_value, root_value}
use Rattle.volume_model.specs.Sizes.{keeps_stream, follow, are_joined}
use Rattle.made_trees.proofs.made_files.plan_growth.Placed.{stream_rule}
use Rattle.made_trees.proofs.made_files.Roots.{OneRoot, one_root}
use Rattle.found_places.proofs.Steady.{IsOneValue}

-- ---- one attribute that passes

two_sorted : (a x y : Attr) (attributes attrs : List Attr) → sorted_into (x ∷ y ∷ attributes) attrs ≡ a ∷ [] → ⊥
two_sorted a x y attributes [] one = absurd cc
two_sorted a x y attributes (z ∷ attrs) one = elim (cases_Bool (ltb (form_first z.form) (form_first x.form))) [
  | inl before ↦ two_sorted a z x (y ∷ attributes) attrs (sym (ap (λ (t : Bool). sorted_into (cond t (z ∷ x ∷ y ∷ attributes) (x ∷ with_attribute z (y ∷ attributes))) attrs) before) ∙ one)
  | inr behind ↦ (let next = sym (ap (λ (t : Bool). sorted_into (cond t (z ∷ x ∷ y ∷ attributes) (x ∷ with_attribute z (y ∷ attributes))) attrs) behind) ∙ one in elim (cases_Bool (ltb (form_first z.form) (form_first y.form))) [
    | inl first ↦ two_sorted a x z (y ∷ attributes) attrs (sym (ap (λ (t : Bool). sorted_into (x ∷ cond t (z ∷ y ∷ attributes) (y ∷ with_attribute z attributes)) attrs) first) ∙ next)
    | inr last ↦ two_sorted a x y (with_attribute z attributes) attrs (sym (ap (λ (t : Bool). sorted_into (x ∷ cond t (z ∷ y ∷ attributes) (y ∷ with_attribute z attributes)) attrs) last) ∙ next)
  ])
]

one_sorted : (a : Attr) (attrs : List Attr) → sorted_into [] attrs ≡ a ∷ [] → attrs ≡ a ∷ []
one_sorted a [] one = absurd cc
one_sorted a (x ∷ []) one = one
one_sorted a (x ∷ y ∷ attrs) one = elim (cases_Bool (ltb (form_first y.form) (form_first x.form))) [
  | inl before ↦ absurd (two_sorted a y x [] attrs (sym (ap (λ (t : Bool). sorted_into (cond t (y ∷ x ∷ []) (x ∷ y ∷ [])) attrs) before) ∙ one))
  | inr behind ↦ absurd (two_sorted a x y [] attrs (sym (ap (λ (t : Bool). sorted_into (cond t (y ∷ x ∷ []) (x ∷ y ∷ [])) attrs) behind) ∙ one))
]

-- ---- a value

held_form : (form : OwnForm) (runs : List Run) (value : List ℕ) → Some (form_stream form runs) ≡ Some (Held value) → (indexed : ℕ) × (form ≡ Resident value indexed)
held_form (Resident bytes indexed) runs value is = (indexed, (let same : bytes ≡ value = cc in ap (λ (l : List ℕ). Resident l indexed) same))
held_form (Mapped sizes pairs) runs value is = absurd cc

no_clusters : (a : Attr) (value : List ℕ) (indexed : ℕ) → a.form ≡ Resident value indexed → total_clusters (attribute_runs a) ≡ 0
unfolding attribute_runs
no_clusters a value indexed is = ap (λ (f : OwnForm). total_clusters (form_runs f)) is

first_has : (vcn : ℕ) (a : Attr) (others : List Attr) → follow vcn (a ∷ others) ≡ true → 0 < total_clusters (attribute_runs a)
first_has vcn a others is =
    let parts = and_parts (eqb (first_vcn a) vcn && ltb 0 (total_clusters (attribute_runs a))) (follow (vcn + total_clusters (attribute_runs a)) others) is in
    ltb-true 0 (total_clusters (attribute_runs a)) (and_parts (eqb (first_vcn a) vcn) (ltb 0 (total_clusters (attribute_runs a))) parts.0).1

module _ (per clusters kind : ℕ) (name : List ℕ) (r : Record) (value : List ℕ) (no_name : file_name ≢ kind) (rule : list_all (keeps_stream per clusters r.attrs) r.attrs ≡ true) where
  by_list : (attributes : List Attr) → attributes_of kind name r.attrs ≡ attributes → joined attributes ≡ Some (Held value) → IsOneValue kind name r value
  unfolding attributes_of
  by_list [] are is = absurd cc
  by_list (a ∷ []) are is =
      let form = held_form a.form _ value is in
      record { attr = a; indexed = form.0; listed = are; filtered = one_sorted a (filter (is_attribute_of kind name) r.attrs) are; form = form.1 }
  by_list (a ∷ b ∷ others) are is =
      let form = held_form a.form _ value is in
      let together = (stream_rule per clusters kind name r a (b ∷ others) no_name are rule).0 in
      let some = first_has 0 a (b ∷ others) (sym (ap are_joined are) ∙ together) in
      let none = no_clusters a value form.0 form.1 in
      absurd (omega (arith, some, none))

  pub one_value : stream_of kind name r.attrs ≡ Some (Held value) → IsOneValue kind name r value
  unfolding stream_of
  one_value is = by_list (attributes_of kind name r.attrs) refl is

-- ---- the root

found_first : (p : Attr → Bool) (b : Attr) (rest attrs : List Attr) → filter p attrs ≡ b ∷ rest → find p attrs ≡ Some b
found_first p b rest [] is = absurd cc
found_first p b rest (a ∷ attrs) is = elim (cases_Bool (p a)) [
  | inl passes ↦
      (let same : a ∷ filter p attrs ≡ b ∷ rest = sym (ap (λ (t : Bool). cond t (a ∷ filter p attrs) (filter p attrs)) passes) ∙ is in
      let first : a ≡ b = cc in
      ap (λ (t : Bool). cond t (Some a) (find p attrs)) passes ∙ ap Some first)
  | inr fails ↦ ap (λ (t : Bool). cond t (Some a) (find p attrs)) fails ∙ found_first p b rest attrs (sym (ap (λ (t : Bool). cond t (a ∷ filter p attrs) (filter p attrs)) fails) ∙ is)
]

valued_form : (form : OwnForm) (value : List ℕ) → form_value form ≡ Some value → (indexed : ℕ) × (form ≡ Resident value indexed)
valued_form (Resident bytes indexed) value is = (indexed, (let same : bytes ≡ value = cc in ap (λ (l : List ℕ). Resident l indexed) same))
valued_form (Mapped sizes pairs) value is = absurd cc

pub root_one : (per clusters : ℕ) (r : Record) (value : List ℕ) → list_all (keeps_stream per clusters r.attrs) r.attrs ≡ true → root_value r ≡ Some value → IsOneValue index_root names_index r value
unfolding root_value is_names_root is_attribute_of
root_one per clusters r value rule is =
    let one : OneRoot r value = one_root per clusters r value rule is in
    let found = found_first (is_attribute_of index_root names_index) one.attr [] r.attrs one.filtered in
    let form = valued_form one.attr.form value (sym (ap attr_value found) ∙ is) in
    record { attr = one.attr; indexed = form.0; listed = one.listed; filtered = one.filtered; form = form.1 }
