-- No cluster lies twice in a state, also past its end: each run lies inside the volume.
use Rattle.std.proofs.Common.{◌≡◌, ℕ, zero, suc, ◌+◌, ◌*◌, ◌<◌, ◌≤◌, Bool, true, false, not, ◌&&◌, ◌||◌, cond, eqb, nat_eq, ltb, List, [], ◌∷◌, ◌++◌, get_or, Option, Some, None, refl, sym, ap, subst, ◌∙◌, inl, inr, arith}
use Rattle.std.specs.Prelude.{slice_get}
use Rattle.std.specs.List.{sum_by, filter, flat_map, list_all, range_with_len}
use Rattle.std.specs.Cmp.Lexicographic.{pointwise}
use Rattle.std.proofs.lemmas.Bool.{cases_Bool, cases_lt, and_parts, and_from, eq-eqb, leb-true}
use Rattle.std.proofs.lemmas.List.Sums.{sum_by-cons}
use Rattle.tree_laws.specs.host_base.FileRefs.{same_reference}
use Rattle.log_model.specs.disk_model.Content.{Content}
use Rattle.tree_laws.specs.record_model.declared.attribute.OwnForm.{OwnForm}
use Rattle.tree_laws.specs.record_model.declared.attribute.OwnForm.TheVariants.{Resident, Mapped}
use Rattle.tree_laws.specs.record_model.declared.attribute.Attr.{Attr}
use Rattle.tree_laws.specs.record_model.declared.runs.Run.{Run}
use Rattle.tree_laws.specs.record_model.Records.{Record, has_lawful_values, shaped_at}
use Rattle.tree_laws.specs.record_model.Values.{is_resident_and, has_lawful_value}
use Rattle.tree_laws.specs.record_model.Constants.{file_name, standard_information}
use Rattle.tree_laws.specs.state_model.declared.geometry.Geometry.{Geometry}
use Rattle.tree_laws.specs.state_model.Files.{reference}
use Rattle.tree_laws.specs.state_model.Loads.{Used, slot_of, slot_at, total_clusters, table_slot, record_count, whole_record, has_all_pairs, is_used, entries_of, named_attrs, all_attrs}
use Rattle.tree_laws.specs.state_model.Streams.{first_vcn, is_attribute_of, attributes_of, attribute_runs, form_runs, form_stream, joined, stream_of, block_at}
use Rattle.tree_laws.specs.record_model.declared.list_entry.ListEntry.{ListEntry}
use Rattle.log_model.specs.disk_model.declared.block.Block.{Block}
use Rattle.log_model.specs.disk_model.declared.block.BlockKind.TheVariants.{FileRec}
use Rattle.tree_laws.specs.volume_model.Volumes.{Volume}
use Rattle.tree_laws.specs.volume_model.Sizes.{follow, are_joined, lies_inside, fits_volume, keeps_stream, keeps_streams}
use Rattle.tree_laws.specs.volume_model.Owners.{volume_runs, uses, keeps_owner}
use Rattle.tree_laws.specs.volume_state.Rules.{broken_5}
use Rattle.tree_laws.specs.host_base.Answers.{◌>>=◌, needs}
use Rattle.std.specs.Prelude.{Result, Ok, Err}
use Rattle.tree_laws.specs.stream_laws.Places.{AreOnce}
use Rattle.tree_laws.proofs.stream_laws.Placing.{unused}
use Rattle.tree_laws.proofs.stream_laws.Sharing.{attr_uses, file_uses, uses-flat_map, volume_sum, attributes_sum}
use Rattle.tree_laws.proofs.stream_laws.Tabling.{used_part, used_some, read_in_use}
use Rattle.tree_laws.proofs.Keeping.{rules_of, passes_below}
use Rattle.plan_owners.specs.States.{Stands}
use Rattle.plan_owners.proofs.Standing.{slots, slot_record, slot_past, FileParts, file_parts, listed_file, streams_at}

-- ---- lists

pub all_appended : {X : Type 0} (p : X → Bool) (xs ys : List X) → list_all p xs ≡ true → list_all p ys ≡ true → list_all p (xs ++ ys) ≡ true
all_appended p [] ys all more = more
all_appended p (x ∷ xs) ys all more = let parts = and_parts _ _ all in and_from _ _ parts.0 (all_appended p xs ys parts.1 more)

pub all_flat : {X Y : Type 0} (p : Y → Bool) (f : X → List Y) (xs : List X) → ((x : X) → list_all p (f x) ≡ true) → list_all p (flat_map f xs) ≡ true
all_flat p f [] each = refl
all_flat p f (x ∷ xs) each = all_appended p (f x) (flat_map f xs) (each x) (all_flat p f xs each)

pub all_filtered : {X : Type 0} (p q : X → Bool) (xs : List X) → list_all p xs ≡ true → list_all p (filter q xs) ≡ true
all_filtered p q [] all = refl
all_filtered p q (x ∷ xs) all =
    let parts = and_parts _ _ all in
    elim (cases_Bool (q x)) [
      | inl passes ↦ rw passes (and_from _ _ parts.0 (all_filtered p q xs parts.1))
      | inr fails ↦ rw fails (all_filtered p q xs parts.1)
    ]

pub all_at : {X : Type 0} (p : X → Bool) (xs : List X) (i : ℕ) (x : X) → list_all p xs ≡ true → slice_get xs i ≡ Some x → p x ≡ true
all_at p [] i x all is = absurd cc
all_at p (y ∷ xs) zero x all is = let same : y ≡ x = cc in subst (λ z. p z ≡ true) same (and_parts _ _ all).0
all_at p (y ∷ xs) (suc i) x all is = all_at p xs i x (and_parts _ _ all).1 is

pub one_filtered : {X : Type 0} (f : X → ℕ) (p : X → Bool) (xs : List X) (i : ℕ) (x : X) → slice_get xs i ≡ Some x → p x ≡ true → f x ≤ sum_by f (filter p xs)
one_filtered f p [] i x is passes = absurd cc
one_filtered f p (y ∷ xs) zero x is passes =
    let same : y ≡ x = cc in
    let here : p y ≡ true = ap p same ∙ passes in
    let weight : f y ≡ f x = ap f same in
    rw here (omega (arith, sum_by-cons f y (filter p xs), weight))
one_filtered f p (y ∷ xs) (suc i) x is passes =
    let rest = one_filtered f p xs i x is passes in
    elim (cases_Bool (p y)) [
      | inl here ↦ rw here (omega (arith, sum_by-cons f y (filter p xs), rest))
      | inr fails ↦ rw fails rest
    ]

pub none_in_all : {X : Type 0} (f : X → ℕ) (xs : List X) → ((i : ℕ) (x : X) → slice_get xs i ≡ Some x → f x ≡ 0) → sum_by f xs ≡ 0
none_in_all f [] each = refl
none_in_all f (x ∷ xs) each = let here = each 0 x refl in let rest = none_in_all f xs (λ i y is. each (suc i) y is) in omega (arith, sum_by-cons f x xs, here, rest)

pub slice_at : {X : Type 0} (xs : List X) (i : ℕ) (x d : X) → slice_get xs i ≡ Some x → get_or xs i d ≡ x
slice_at [] i x d is = absurd cc
slice_at (y ∷ xs) zero x d is = cc
slice_at (y ∷ xs) (suc i) x d is = slice_at xs i x d is

-- ---- the values of files are lawful

lawful_of : (pairs lawful : Bool) (x r : Record) → (needs {F = ℕ} pairs 7 >>= λ _. needs {F = ℕ} lawful 8 >>= λ _. Ok x) ≡ Ok r → (lawful ≡ true) × (x ≡ r)
lawful_of false lawful x r is = absurd cc
lawful_of true false x r is = absurd cc
lawful_of true true x r is = (refl, cc)

behind : (shape : Result Record ℕ) (pairs lawful : Record → Bool) (r : Record) → (shape >>= λ x. needs {F = ℕ} (pairs x) 7 >>= λ _. needs {F = ℕ} (lawful x) 8 >>= λ _. Ok x) ≡ Ok r → lawful r ≡ true
behind (Err rule) pairs lawful r is = absurd cc
behind (Ok x) pairs lawful r is = let parts = lawful_of (pairs x) (lawful x) x r is in sym (ap lawful parts.1) ∙ parts.0

lawful_record : (body : List ℕ) (r : Record) → whole_record body ≡ Ok r → list_all has_lawful_value r.attrs ≡ true
unfolding whole_record has_lawful_values
lawful_record body r is = behind (shaped_at body) has_all_pairs has_lawful_values r is

lawful_at : (c : Content) (o : Option Block) (r : Record) → slot_at c o ≡ Used r → list_all has_lawful_value r.attrs ≡ true
unfolding slot_of
lawful_at c None r is = absurd cc
lawful_at c (Some b) r is = let read = read_in_use (c b).torn (is_used (c b).bytes) (whole_record (c b).bytes) r is in lawful_record (c b).bytes r read.2

pub lawful_slot : (c : Content) (v : Volume) (n : ℕ) (r : Record) → table_slot c v.per v.table n ≡ Used r → list_all has_lawful_value r.attrs ≡ true
unfolding table_slot
lawful_slot c v n r is = lawful_at c (block_at v.per v.table.runs FileRec n) r (used_part v.table.initialised (1024 * n) (slot_at c (block_at v.per v.table.runs FileRec n)) r is)

lawful_held : (c : Content) (v : Volume) (m : ℕ) (r : Record) → slots c v m ≡ Some r → list_all has_lawful_value r.attrs ≡ true
lawful_held c v m r is = elim (cases_lt m (record_count v.table)) [
  | inl below ↦ lawful_slot c v m r (used_some (table_slot c v.per v.table m) r (sym (slot_record c v m below) ∙ is))
  | inr past ↦ (let none : None ≡ Some r = sym (slot_past c v m past) ∙ is in absurd cc)
]

lawful_if : (t : Bool) (xs : List Attr) → list_all has_lawful_value xs ≡ true → list_all has_lawful_value (cond t xs []) ≡ true
lawful_if true xs all = all
lawful_if false xs all = refl

lawful_named : (entries : List ListEntry) (n : ℕ) (r : Record) (m : ℕ) (o : Option Record) → ((q : Record) → o ≡ Some q → list_all has_lawful_value q.attrs ≡ true) → list_all has_lawful_value (named_attrs entries n r m o) ≡ true
lawful_named entries n r m None each = refl
lawful_named entries n r m (Some q) each = lawful_if (not (eqb m n) && same_reference q.head.base (reference n r)) _ (all_filtered has_lawful_value _ q.attrs (each q refl))

pub lawful_file : (c : Content) (g : Geometry) (clusters : ℕ) (v : Volume) (n : ℕ) (f : Record) → FileParts c v n f → list_all has_lawful_value f.attrs ≡ true
unfolding all_attrs
lawful_file c g clusters v n f parts =
    let p = slots c v in
    let named : ℕ → List Attr = λ m. named_attrs (entries_of c v.per parts.base).entries n parts.base m (p m) in
    ap (λ (x : Record). list_all has_lawful_value x.attrs) parts.whole
    ∙ all_appended has_lawful_value parts.base.attrs (flat_map named (range_with_len 0 (record_count v.table))) (lawful_slot c v n parts.base parts.slot)
    (all_flat has_lawful_value named (range_with_len 0 (record_count v.table)) (λ m. lawful_named (entries_of c v.per parts.base).entries n parts.base m (p m) (λ q is. lawful_held c v m q is)))

-- ---- runs past the end

uses-nothing : (x : ℕ) → uses [] x ≡ 0
unfolding uses
uses-nothing x = refl

value_runs : (s f : Bool) (one two : List ℕ → Bool) (form : OwnForm) → f ≡ true → cond s (is_resident_and one form) (cond f (is_resident_and two form) true) ≡ true → form_runs form ≡ []
value_runs s f one two (Resident value indexed) name lawful = refl
value_runs true f one two (Mapped sizes pairs) name lawful = absurd cc
value_runs false true one two (Mapped sizes pairs) name lawful = absurd cc
value_runs false false one two (Mapped sizes pairs) name lawful = absurd cc

name_runs : (a : Attr) → eqb a.head.kind file_name ≡ true → has_lawful_value a ≡ true → attribute_runs a ≡ []
unfolding has_lawful_value attribute_runs
name_runs a name lawful = value_runs (eqb a.head.kind standard_information) (eqb a.head.kind file_name) _ _ a.form name lawful

form_inside : (per clusters : ℕ) (form : OwnForm) (runs : List Run) → fits_volume per clusters (Some (form_stream form runs)) ≡ true → (form_runs form ≡ [] → runs ≡ []) → list_all (lies_inside clusters) runs ≡ true
form_inside per clusters (Resident value indexed) runs fits none = ap (list_all (lies_inside clusters)) (none refl)
form_inside per clusters (Mapped sizes pairs) runs fits none = (and_parts _ _ fits).0

runs_of_form : (a : Attr) → form_runs a.form ≡ [] → attribute_runs a ≡ []
unfolding attribute_runs
runs_of_form a none = none

has_total : (a b : Attr) (attributes : List Attr) → follow 0 (a ∷ b ∷ attributes) ≡ true → attribute_runs a ≡ [] → ⊥
has_total a b attributes is none =
    let parts = and_parts (eqb (first_vcn a) 0) (ltb 0 (total_clusters (attribute_runs a))) (and_parts _ (follow (0 + total_clusters (attribute_runs a)) (b ∷ attributes)) is).0 in
    let never : ltb 0 (total_clusters []) ≡ true = sym (ap (λ (l : List Run). ltb 0 (total_clusters l)) none) ∙ parts.1 in
    absurd cc

joined_inside : (per clusters : ℕ) (attributes : List Attr) → are_joined attributes ≡ true → fits_volume per clusters (joined attributes) ≡ true → list_all (lies_inside clusters) (flat_map attribute_runs attributes) ≡ true
joined_inside per clusters [] is fits = refl
joined_inside per clusters (a ∷ []) is fits = form_inside per clusters a.form (flat_map attribute_runs (a ∷ [])) fits (λ none. ap (λ (l : List Run). l ++ []) (runs_of_form a none))
joined_inside per clusters (a ∷ b ∷ attributes) is fits = form_inside per clusters a.form (flat_map attribute_runs (a ∷ b ∷ attributes)) fits (λ none. absurd (has_total a b attributes is (runs_of_form a none)))

same_units : (xs : List ℕ) → pointwise nat_eq xs xs ≡ true
same_units [] = refl
same_units (x ∷ xs) = and_from _ _ (eq-eqb x x refl) (same_units xs)

own_attribute : (a : Attr) → is_attribute_of a.head.kind a.name a ≡ true
unfolding is_attribute_of
own_attribute a = and_from _ _ (eq-eqb a.head.kind a.head.kind refl) (same_units a.name)

stream_outside : (per clusters x : ℕ) (kind : ℕ) (name : List ℕ) (attrs : List Attr) → clusters ≤ x → are_joined (attributes_of kind name attrs) ≡ true → fits_volume per clusters (stream_of kind name attrs) ≡ true → sum_by (attr_uses x) (filter (is_attribute_of kind name) attrs) ≡ 0
unfolding stream_of
stream_outside per clusters x kind name attrs past is fits =
    sym (attributes_sum (attr_uses x) kind name attrs)
    ∙ sym (uses-flat_map attribute_runs (attributes_of kind name attrs) x)
    ∙ unused clusters x (flat_map attribute_runs (attributes_of kind name attrs)) (joined_inside per clusters (attributes_of kind name attrs) is fits) past

either_rule : (f j : Bool) → f ≡ false → (f || j) ≡ true → j ≡ true
either_rule f j fails is = sym (ap (λ (t : Bool). t || j) fails) ∙ is

attr_outside : (per clusters x i : ℕ) (attrs : List Attr) (a : Attr) → clusters ≤ x → slice_get attrs i ≡ Some a → keeps_stream per clusters attrs a ≡ true → has_lawful_value a ≡ true → attr_uses x a ≡ 0
unfolding keeps_stream
attr_outside per clusters x i attrs a past is keeps lawful = elim (cases_Bool (eqb a.head.kind file_name)) [
  | inl name ↦ ap (λ (l : List Run). uses l x) (name_runs a name lawful) ∙ uses-nothing x
  | inr other ↦
      (let parts = and_parts _ _ (either_rule _ _ other keeps) in
      let none = stream_outside per clusters x a.head.kind a.name attrs past parts.0 parts.1 in
      omega (arith, one_filtered (attr_uses x) (is_attribute_of a.head.kind a.name) attrs i a is (own_attribute a), none))
]

streams_kept : (c : Content) (v : Volume) (n : ℕ) (f : Record) → keeps_streams c v n f ≡ true → list_all (keeps_stream v.per v.clusters f.attrs) f.attrs ≡ true
unfolding keeps_streams
streams_kept c v n f is = (and_parts _ _ (and_parts _ _ (and_parts _ _ is).0).0).0

file_outside : (c : Content) (g : Geometry) (clusters : ℕ) (v : Volume) (x n : ℕ) (o : Option Record) → Stands c g clusters v → v.clusters ≤ x → get_or v.files n None ≡ o → file_uses x o ≡ 0
file_outside c g clusters v x n None s past is = uses-nothing x
file_outside c g clusters v x n (Some f) s past is =
    let parts = file_parts c g clusters v n f s.loaded is in
    let lawful = lawful_file c g clusters v n f parts in
    let kept = streams_kept c v n f (streams_at c g clusters v n f s (listed_file c g clusters v n f s.loaded is)) in
    uses-flat_map attribute_runs f.attrs x
    ∙ none_in_all (attr_uses x) f.attrs (λ i a at. attr_outside v.per v.clusters x i f.attrs a past at (all_at _ f.attrs i a kept at) (all_at has_lawful_value f.attrs i a lawful at))

rule_5 : (v : Volume) → broken_5 v ≡ None → (x : ℕ) → x < v.clusters → keeps_owner (volume_runs v.files) x ≡ true
unfolding broken_5
rule_5 v none x below = passes_below (keeps_owner (volume_runs v.files)) v.clusters none x below

pub unused_outside : (c : Content) (g : Geometry) (clusters : ℕ) (v : Volume) (x : ℕ) → Stands c g clusters v → v.clusters ≤ x → uses (volume_runs v.files) x ≡ 0
unused_outside c g clusters v x s past =
    let none = none_in_all (file_uses x) v.files (λ n o is. file_outside c g clusters v x n o s past (slice_at v.files n o None is)) in
    volume_sum v.files x ∙ none

pub once : (c : Content) (g : Geometry) (clusters : ℕ) (v : Volume) → Stands c g clusters v → AreOnce (volume_runs v.files)
once c g clusters v s x = elim (cases_lt x v.clusters) [
  | inl below ↦ within (rule_5 v (rules_of c v s.kept).rule_5 x below)
  | inr past ↦ (let none = unused_outside c g clusters v x s past in omega arith)
]
  where
    within : keeps_owner (volume_runs v.files) x ≡ true → uses (volume_runs v.files) x ≤ 1
    within keeps = leb-true (uses (volume_runs v.files) x) 1 keeps
