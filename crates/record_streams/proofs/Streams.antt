-- The streams of a record in which one has other clusters.
use Rattle.std.proofs.Common.{◌≡◌, ◌≢◌, ◌⊎◌, ℕ, ◌≤◌, ◌^◌, Bool, true, false, cond, eqb, List, [], ◌∷◌, ◌++◌, length, Option, Some, None, Ok, refl, sym, ap, ◌∙◌, subst, inl, inr, arith}
use Rattle.std.specs.Prelude.{filter, not, nat_eq, All, ◌&&◌}
use Rattle.std.specs.List.{flat_map}
use Rattle.std.specs.Cmp.Lexicographic.{pointwise}
use Rattle.std.proofs.lemmas.Bool.{cases_Bool, and_parts, eqb-true}
use Rattle.std.proofs.lemmas.List.{append-nil}
use Rattle.std.proofs.lemmas.List.Elements.{All-head, filter_passes}
use Rattle.record_writer.specs.record_model.declared.attribute.Attr.{Attr}
use Rattle.record_writer.specs.record_model.declared.runs.Run.{Run}
use Rattle.record_writer.specs.record_model.Pairs.{runs_of, pairs_of, HasSpelling}
use Rattle.record_writer.specs.record_model.Records.{Record}
use Rattle.record_writer.proofs.record_model.PairsRead.{spelled_read}
use Rattle.record_writer.proofs.record_model.PairsSpelled.{written_spelled}
use Rattle.stream_map.specs.state_model.declared.stream.Extents.{Extents}
use Rattle.stream_map.specs.state_model.declared.stream.Stream.{Stream}
use Rattle.stream_map.specs.state_model.declared.stream.Stream.TheVariants.{Placed}
use Rattle.stream_map.specs.state_model.Streams.{is_attribute_of, sorted_into, attributes_of, runs_or, attribute_runs, joined, stream_of}
use Rattle.record_streams.specs.Placing.{without_stream, with_stream, placed_attr, placed_first, placed_record}
use Rattle.record_streams.proofs.Kept.{with_none, with_one, all_of_stream}

-- ---- which stream an attribute belongs to

same_from_test : (xs ys : List ℕ) → pointwise nat_eq xs ys ≡ true → xs ≡ ys
same_from_test [] [] same = refl
same_from_test [] (y ∷ ys) same = absurd cc
same_from_test (x ∷ xs) [] same = absurd cc
same_from_test (x ∷ xs) (y ∷ ys) same =
    let parts = and_parts (eqb x y) (pointwise nat_eq xs ys) same in
    let head : x ≡ y = eqb-true x y parts.0 in
    let rest : xs ≡ ys = same_from_test xs ys parts.1 in
    cc

pub attribute_kind : (kind : ℕ) (name : List ℕ) (a : Attr) → is_attribute_of kind name a ≡ true → (a.head.kind ≡ kind) × (a.name ≡ name)
unfolding is_attribute_of
attribute_kind kind name a is =
    let parts = and_parts (eqb a.head.kind kind) (pointwise nat_eq a.name name) is in
    (eqb-true a.head.kind kind parts.0, same_from_test a.name name parts.1)

-- the attribute in other clusters is of the same stream
pub placed_is : (per kind : ℕ) (name : List ℕ) (e : Extents) (a : Attr) (t : Bool) → is_attribute_of kind name a ≡ t → is_attribute_of kind name (placed_attr per e a) ≡ t
unfolding is_attribute_of
placed_is per kind name e a t is = is

clash : (kind other : ℕ) (name alias : List ℕ) (a : Attr) (t : Bool) → is_attribute_of other alias a ≡ t → (other ≢ kind) ⊎ (alias ≢ name) → is_attribute_of kind name a ≡ true → is_attribute_of other alias a ≡ false
clash kind other name alias a false is differ here = is
clash kind other name alias a true is differ here =
    let first = attribute_kind kind name a here in
    let second = attribute_kind other alias a is in
    elim differ [
      | inl kinds ↦ absurd (kinds (sym second.0 ∙ first.0))
      | inr names ↦ absurd (names (sym second.1 ∙ first.1))
    ]

pub of_another : (kind other : ℕ) (name alias : List ℕ) (a : Attr) → (other ≢ kind) ⊎ (alias ≢ name) → is_attribute_of kind name a ≡ true → is_attribute_of other alias a ≡ false
of_another kind other name alias a differ here = clash kind other name alias a (is_attribute_of other alias a) refl differ here

-- each attribute of a stream passes its test
abbrev Passes : ℕ → List ℕ → Attr → Type 0
Passes kind name a = is_attribute_of kind name a ≡ true

pub first_passes : (kind : ℕ) (name : List ℕ) (attrs : List Attr) (a : Attr) (others : List Attr) → attributes_of kind name attrs ≡ a ∷ others → is_attribute_of kind name a ≡ true
first_passes kind name attrs a others is =
    let all = all_of_stream (Passes kind name) kind name attrs (filter_passes (is_attribute_of kind name) attrs) in
    All-head (Passes kind name) a others (subst (All (Passes kind name)) is all)

-- ---- filters

filter_yes : (p : Attr → Bool) (a : Attr) (attrs : List Attr) → p a ≡ true → filter p (a ∷ attrs) ≡ a ∷ filter p attrs
filter_yes p a attrs is = ap (λ (t : Bool). cond t (a ∷ filter p attrs) (filter p attrs)) is

filter_no : (p : Attr → Bool) (a : Attr) (attrs : List Attr) → p a ≡ false → filter p (a ∷ attrs) ≡ filter p attrs
filter_no p a attrs is = ap (λ (t : Bool). cond t (a ∷ filter p attrs) (filter p attrs)) is

-- what a test passes of those that another one doesn't
without_own : (kind : ℕ) (name : List ℕ) (attrs : List Attr) → filter (is_attribute_of kind name) (without_stream kind name attrs) ≡ []
without_own kind name [] = refl
without_own kind name (a ∷ attrs) =
    let p = is_attribute_of kind name in
    let q : Attr → Bool = λ b. not (is_attribute_of kind name b) in
    elim (cases_Bool (p a)) [
      | inl is ↦ ap (filter p) (filter_no q a attrs (ap not is)) ∙ without_own kind name attrs
      | inr is ↦ ap (filter p) (filter_yes q a attrs (ap not is)) ∙ filter_no p a (without_stream kind name attrs) is ∙ without_own kind name attrs
    ]

pub own_with : (kind : ℕ) (name : List ℕ) (new : Attr) (attrs : List Attr) (b : Attr) (rest : List Attr) → is_attribute_of kind name new ≡ true → filter (is_attribute_of kind name) attrs ≡ b ∷ rest → filter (is_attribute_of kind name) (with_stream kind name new attrs) ≡ new ∷ []
own_with kind name new [] b rest own some = absurd cc
own_with kind name new (a ∷ attrs) b rest own some =
    let p = is_attribute_of kind name in
    elim (cases_Bool (p a)) [
      | inl is ↦ ap (filter p) (with_one kind name new a attrs is) ∙ filter_yes p new (without_stream kind name attrs) own ∙ ap (λ (l : List Attr). new ∷ l) (without_own kind name attrs)
      | inr is ↦ ap (filter p) (with_none kind name new a attrs is) ∙ filter_no p a (with_stream kind name new attrs) is ∙ own_with kind name new attrs b rest own (sym (filter_no p a attrs is) ∙ some)
    ]

-- a test that fails on the stream's attributes
Spares : (Attr → Bool) → ℕ → List ℕ → Type 0
Spares q kind name = (a : Attr) → is_attribute_of kind name a ≡ true → q a ≡ false

others_without : (q : Attr → Bool) (kind : ℕ) (name : List ℕ) (attrs : List Attr) → ((a : Attr) → is_attribute_of kind name a ≡ true → q a ≡ false) → filter q (without_stream kind name attrs) ≡ filter q attrs
others_without q kind name [] spares = refl
others_without q kind name (a ∷ attrs) spares =
    let out : Attr → Bool = λ b. not (is_attribute_of kind name b) in
    elim (cases_Bool (is_attribute_of kind name a)) [
      | inl is ↦ ap (filter q) (filter_no out a attrs (ap not is)) ∙ others_without q kind name attrs spares ∙ sym (filter_no q a attrs (spares a is))
      | inr is ↦ ap (filter q) (filter_yes out a attrs (ap not is)) ∙ ap (λ (l : List Attr). cond (q a) (a ∷ l) l) (others_without q kind name attrs spares)
    ]

pub others_with : (q : Attr → Bool) (kind : ℕ) (name : List ℕ) (new : Attr) (attrs : List Attr) → ((a : Attr) → is_attribute_of kind name a ≡ true → q a ≡ false) → q new ≡ false → filter q (with_stream kind name new attrs) ≡ filter q attrs
others_with q kind name new [] spares none = refl
others_with q kind name new (a ∷ attrs) spares none = elim (cases_Bool (is_attribute_of kind name a)) [
  | inl is ↦ ap (filter q) (with_one kind name new a attrs is) ∙ filter_no q new (without_stream kind name attrs) none ∙ others_without q kind name attrs spares ∙ sym (filter_no q a attrs (spares a is))
  | inr is ↦ ap (filter q) (with_none kind name new a attrs is) ∙ ap (λ (l : List Attr). cond (q a) (a ∷ l) l) (others_with q kind name new attrs spares none)
]

-- ---- the stream itself

pub some_by : (attrs : List Attr) (a : Attr) (others : List Attr) → sorted_into [] attrs ≡ a ∷ others → (b : Attr) × (rest : List Attr) × (attrs ≡ b ∷ rest)
some_by [] a others is = absurd cc
some_by (b ∷ rest) a others is = (b, rest, refl)

own_attribute : (per kind : ℕ) (name : List ℕ) (e : Extents) (attrs : List Attr) (a : Attr) (others : List Attr) → attributes_of kind name attrs ≡ a ∷ others → attributes_of kind name (with_stream kind name (placed_attr per e a) attrs) ≡ placed_attr per e a ∷ []
unfolding attributes_of
own_attribute per kind name e attrs a others is =
    let own = placed_is per kind name e a true (first_passes kind name attrs a others is) in
    let some = some_by (filter (is_attribute_of kind name) attrs) a others is in
    ap (sorted_into []) (own_with kind name (placed_attr per e a) attrs some.0 some.1 own some.2)

pub placed_one : (per kind : ℕ) (name : List ℕ) (e : Extents) (r : Record) (a : Attr) (others : List Attr) → attributes_of kind name r.attrs ≡ a ∷ others → attributes_of kind name (placed_record per kind name e r).attrs ≡ placed_attr per e a ∷ []
placed_one per kind name e r a others is =
    ap (λ (l : List Attr). attributes_of kind name (placed_first per kind name e r l).attrs) is ∙ own_attribute per kind name e r.attrs a others is

runs_read : (per : ℕ) (e : Extents) (a : Attr) → HasSpelling 0 e.runs → attribute_runs (placed_attr per e a) ≡ e.runs
unfolding attribute_runs
runs_read per e a spelled = ap runs_or (ap (runs_of 0) (sym (append-nil (pairs_of e.runs))) ∙ spelled_read 0 e.runs (pairs_of e.runs ++ []) spelled (written_spelled 0 e.runs [] spelled))

stream_by : (per : ℕ) (e : Extents) (a : Attr) → HasSpelling 0 e.runs → joined (placed_attr per e a ∷ []) ≡ Some (Placed e)
stream_by per e a spelled =
    let runs : flat_map attribute_runs (placed_attr per e a ∷ []) ≡ e.runs = append-nil (attribute_runs (placed_attr per e a)) ∙ runs_read per e a spelled in
    ap (λ (l : List Run). Some (Placed (record { runs = l; allocated = e.allocated; real = e.real; initialised = e.initialised }))) runs

pub placed_stream : (per kind : ℕ) (name : List ℕ) (e : Extents) (r : Record) (a : Attr) (others : List Attr) → attributes_of kind name r.attrs ≡ a ∷ others → HasSpelling 0 e.runs → stream_of kind name (placed_record per kind name e r).attrs ≡ Some (Placed e)
unfolding stream_of
placed_stream per kind name e r a others is spelled = ap joined (placed_one per kind name e r a others is) ∙ stream_by per e a spelled

-- ---- other streams

others_by : (per kind other : ℕ) (name alias : List ℕ) (e : Extents) (r : Record) (attributes : List Attr) → attributes_of kind name r.attrs ≡ attributes → (other ≢ kind) ⊎ (alias ≢ name) → attributes_of other alias (placed_first per kind name e r attributes).attrs ≡ attributes_of other alias r.attrs
unfolding attributes_of
others_by per kind other name alias e r [] is differ = refl
others_by per kind other name alias e r (a ∷ attributes) is differ =
    let spares : (b : Attr) → is_attribute_of kind name b ≡ true → is_attribute_of other alias b ≡ false = λ b here. of_another kind other name alias b differ here in
    let none = placed_is per other alias e a false (spares a (first_passes kind name r.attrs a attributes is)) in
    ap (sorted_into []) (others_with (is_attribute_of other alias) kind name (placed_attr per e a) r.attrs spares none)

pub placed_others : (per kind other : ℕ) (name alias : List ℕ) (e : Extents) (r : Record) → (other ≢ kind) ⊎ (alias ≢ name) → attributes_of other alias (placed_record per kind name e r).attrs ≡ attributes_of other alias r.attrs
placed_others per kind other name alias e r differ = others_by per kind other name alias e r (attributes_of kind name r.attrs) refl differ
