-- A cluster that no stream of a state has is no file's.
use Rattle.std.proofs.Common.{◌≡◌, ℕ, ◌+◌, ◌≤◌, Bool, true, false, cond, ◌&&◌, ◌||◌, eqb, nat_eq, ltb, List, [], ◌∷◌, get_or, slice_get, Option, Some, None, refl, sym, ap, ◌∙◌, inl, inr, arith}
use Rattle.std.specs.List.{sum_by, filter, flat_map, list_all}
use Rattle.std.specs.Cmp.Lexicographic.{pointwise}
use Rattle.std.proofs.lemmas.Bool.{cases_Bool, cases_lt, and_parts, and_from, eq-eqb, ltb-true}
use Rattle.std.proofs.lemmas.List.Sums.{sum_by-cons}
use Rattle.disk_model.specs.Content.{Content}
use Rattle.record_model.specs.declared.attribute.OwnForm.{OwnForm}
use Rattle.record_model.specs.declared.attribute.OwnForm.TheVariants.{Resident, Mapped}
use Rattle.record_model.specs.declared.attribute.Attr.{Attr}
use Rattle.record_model.specs.declared.runs.Run.{Run}
use Rattle.record_model.specs.Constants.{file_name, standard_information}
use Rattle.record_model.specs.Records.{Record}
use Rattle.record_model.specs.Values.{is_resident_and, has_lawful_value}
use Rattle.state_model.specs.declared.geometry.Geometry.{Geometry}
use Rattle.state_model.specs.Loads.{total_clusters}
use Rattle.state_model.specs.Streams.{is_attribute_of, attributes_of, attribute_runs, form_runs, form_stream, joined, stream_of}
use Rattle.volume_model.specs.Volumes.{Volume, file_in, file_stream}
use Rattle.volume_model.specs.Sizes.{are_joined, follow, keeps_stream, keeps_streams}
use Rattle.volume_model.specs.Owners.{volume_runs, uses}
use Rattle.stream_laws.specs.Sharing.{StreamKey, stream_at, runs_in}
use Rattle.stream_laws.proofs.Sharing.{attr_uses, file_uses, attributes_sum, uses-flat_map, uses-none, volume_sum}
use Rattle.names_stay.specs.plan_owners.States.{Stands}
use Rattle.names_stay.proofs.plan_owners.Outside.{all_at, one_filtered, none_in_all, slice_at, lawful_file}
use Rattle.names_stay.proofs.plan_owners.Standing.{file_parts, listed_file, streams_at}

-- ---- attributes of one stream

no_runs : (a : Attr) (value : List ℕ) (indexed : ℕ) → a.form ≡ Resident value indexed → attribute_runs a ≡ []
unfolding attribute_runs
no_runs a value indexed is = ap form_runs is

-- a value is the only attribute of its stream
never_held : (a : Attr) (more : List Attr) (x : ℕ) → attribute_runs a ≡ [] → are_joined (a ∷ more) ≡ true → 1 ≤ sum_by (attr_uses x) (a ∷ more) → ⊥
never_held a [] x none is some =
    let sum = sum_by-cons (attr_uses x) a [] in
    let own : attr_uses x a ≡ 0 = ap (λ (l : List Run). uses l x) none ∙ uses-none x in
    let rest : sum_by (attr_uses x) [] ≡ 0 = refl in
    omega (arith, sum, own, rest, some)
never_held a (b ∷ more) x none is some =
    let parts = and_parts (eqb _ 0 && ltb 0 (total_clusters (attribute_runs a))) (follow (0 + total_clusters (attribute_runs a)) (b ∷ more)) is in
    let long = ltb-true 0 (total_clusters (attribute_runs a)) (and_parts (eqb _ 0) (ltb 0 (total_clusters (attribute_runs a))) parts.0).1 in
    let short : total_clusters (attribute_runs a) ≡ 0 = ap total_clusters none in
    omega (arith, long, short)

joined_used : (attributes : List Attr) (x : ℕ) → are_joined attributes ≡ true → 1 ≤ sum_by (attr_uses x) attributes → 1 ≤ uses (runs_in (joined attributes)) x
joined_used [] x is some = (let none : sum_by (attr_uses x) [] ≡ 0 = refl in absurd (omega (arith, none, some)))
joined_used (a ∷ more) x is some = by a.form refl
  where
    by : (form : OwnForm) → a.form ≡ form → 1 ≤ uses (runs_in (joined (a ∷ more))) x
    by (Resident value indexed) held = absurd (never_held a more x (no_runs a value indexed held) is some)
    by (Mapped sizes pairs) placed =
        let all : uses (runs_in (joined (a ∷ more))) x ≡ uses (flat_map attribute_runs (a ∷ more)) x = ap (λ (f : OwnForm). uses (runs_in (Some (form_stream f (flat_map attribute_runs (a ∷ more))))) x) placed in
        let sum : uses (flat_map attribute_runs (a ∷ more)) x ≡ sum_by (attr_uses x) (a ∷ more) = uses-flat_map attribute_runs (a ∷ more) x in
        omega (arith, all, sum, some)

stream_unused : (kind : ℕ) (name : List ℕ) (attrs : List Attr) (x : ℕ) → are_joined (attributes_of kind name attrs) ≡ true → uses (runs_in (stream_of kind name attrs)) x ≡ 0 → sum_by (attr_uses x) (filter (is_attribute_of kind name) attrs) ≡ 0
unfolding stream_of
stream_unused kind name attrs x is none =
    let same : sum_by (attr_uses x) (attributes_of kind name attrs) ≡ sum_by (attr_uses x) (filter (is_attribute_of kind name) attrs) = attributes_sum (attr_uses x) kind name attrs in
    elim (cases_lt 0 (sum_by (attr_uses x) (attributes_of kind name attrs))) [
      | inl some ↦ (let used = joined_used (attributes_of kind name attrs) x is some in absurd (omega (arith, used, none)))
      | inr empty ↦ omega (arith, same, empty)
    ]

-- ---- names lie in no cluster

value_runs : (s f : Bool) (one two : List ℕ → Bool) (form : OwnForm) → f ≡ true → cond s (is_resident_and one form) (cond f (is_resident_and two form) true) ≡ true → form_runs form ≡ []
value_runs s f one two (Resident value indexed) name lawful = refl
value_runs true f one two (Mapped sizes pairs) name lawful = absurd cc
value_runs false true one two (Mapped sizes pairs) name lawful = absurd cc
value_runs false false one two (Mapped sizes pairs) name lawful = absurd cc

name_runs : (a : Attr) → eqb a.head.kind file_name ≡ true → has_lawful_value a ≡ true → attribute_runs a ≡ []
unfolding has_lawful_value attribute_runs
name_runs a name lawful = value_runs (eqb a.head.kind standard_information) (eqb a.head.kind file_name) _ _ a.form name lawful

-- ---- one attribute

same_units : (xs : List ℕ) → pointwise nat_eq xs xs ≡ true
same_units [] = refl
same_units (x ∷ xs) = and_from _ _ (eq-eqb x x refl) (same_units xs)

own_attribute : (a : Attr) → is_attribute_of a.head.kind a.name a ≡ true
unfolding is_attribute_of
own_attribute a = and_from _ _ (eq-eqb a.head.kind a.head.kind refl) (same_units a.name)

either_rule : (f j : Bool) → f ≡ false → (f || j) ≡ true → j ≡ true
either_rule f j fails is = sym (ap (λ (t : Bool). t || j) fails) ∙ is

attr_unused : (per clusters x i : ℕ) (attrs : List Attr) (a : Attr) → slice_get attrs i ≡ Some a → keeps_stream per clusters attrs a ≡ true → has_lawful_value a ≡ true → uses (runs_in (stream_of a.head.kind a.name attrs)) x ≡ 0 → attr_uses x a ≡ 0
unfolding keeps_stream
attr_unused per clusters x i attrs a is keeps lawful none = elim (cases_Bool (eqb a.head.kind file_name)) [
  | inl name ↦ ap (λ (l : List Run). uses l x) (name_runs a name lawful) ∙ uses-none x
  | inr other ↦
      (let parts = and_parts _ _ (either_rule _ _ other keeps) in
      let all = stream_unused a.head.kind a.name attrs x parts.0 none in
      omega (arith, one_filtered (attr_uses x) (is_attribute_of a.head.kind a.name) attrs i a is (own_attribute a), all))
]

-- ---- all files

key_in : ℕ → Attr → StreamKey
key_in n a = record { file = n; kind = a.head.kind; name = a.name }

module _ (c : Content) (g : Geometry) (clusters : ℕ) (v : Volume) (state : Stands c g clusters v) (x : ℕ) (none : (t : StreamKey) → uses (runs_in (stream_at v t)) x ≡ 0) where
  kept : (n : ℕ) (f : Record) → keeps_streams c v n f ≡ true → list_all (keeps_stream v.per v.clusters f.attrs) f.attrs ≡ true
  unfolding keeps_streams
  kept n f is = (and_parts _ _ (and_parts _ _ (and_parts _ _ is).0).0).0

  none_there : (n : ℕ) (f : Record) (a : Attr) → file_in v n ≡ Some f → uses (runs_in (stream_of a.head.kind a.name f.attrs)) x ≡ 0
  unfolding key_in
  none_there n f a is = sym (ap (λ (o : Option Record). uses (runs_in (file_stream a.head.kind a.name o)) x) is) ∙ none (key_in n a)

  file_unused : (n : ℕ) (o : Option Record) → get_or v.files n None ≡ o → file_uses x o ≡ 0
  file_unused n None is = uses-none x
  file_unused n (Some f) is =
      let parts = file_parts c g clusters v n f state.loaded is in
      let file = listed_file c g clusters v n f state.loaded is in
      let lawful = lawful_file c g clusters v n f parts in
      let all = kept n f (streams_at c g clusters v n f state file) in
      uses-flat_map attribute_runs f.attrs x
      ∙ none_in_all (attr_uses x) f.attrs (λ i a at. attr_unused v.per v.clusters x i f.attrs a at (all_at _ f.attrs i a all at) (all_at has_lawful_value f.attrs i a lawful at) (none_there n f a file))

  pub unused : uses (volume_runs v.files) x ≡ 0
  unused = volume_sum v.files x ∙ none_in_all (file_uses x) v.files (λ n o is. file_unused n o (slice_at v.files n o None is))
