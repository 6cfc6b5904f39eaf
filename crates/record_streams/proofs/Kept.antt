-- What of a record's attributes stays where a stream has one other attribute.
use Rattle.std.proofs.Common.{◌≡◌, ℕ, zero, suc, ◌+◌, ◌*◌, ◌^◌, ◌<◌, ◌≤◌, Bool, true, false, cond, ltb, List, [], ◌∷◌, length, refl, sym, ap, ◌∙◌, subst, inl, inr, arith}
use Rattle.std.specs.Prelude.{map, filter, not, All, IsTrue}
use Rattle.std.proofs.lemmas.Bool.{cases_Bool}
use Rattle.std.proofs.lemmas.List.{length-map}
use Rattle.std.proofs.lemmas.List.Elements.{All-nil, All-cons, All-head, All-tail, All-filter, All-map, All-weaker}
use Rattle.record_writer.specs.record_model.declared.attribute.Attr.{Attr}
use Rattle.record_writer.specs.record_model.Attributes.{spelling, FitsAttr}
use Rattle.record_writer.specs.record_model.Constants.{end_mark}
use Rattle.record_writer.specs.record_model.Records.{Record, spelled_bytes, used_of, TypesRise, FitsRecord}
use Rattle.record_writer.specs.record_model.Values.{has_lawful_value}
use Rattle.record_writer.specs.Normal.{normal, normal_record}
use Rattle.record_writer.specs.NormalLaws.{FitsByRoom}
use Rattle.record_writer.proofs.Measures.{spelled_count}
use Rattle.stream_map.specs.state_model.Streams.{first_vcn, is_attribute_of, with_attribute, sorted_into, attributes_of}
use Rattle.record_streams.specs.Placing.{without_stream, with_stream}
use Rattle.record_streams.specs.Fitting.{IsShort, FitsButRoom}

-- ---- what has a spelling but for its room

abbrev HasKind : Attr → Type 0
HasKind a = a.head.kind < end_mark

abbrev IsLawful : Attr → Type 0
IsLawful a = IsTrue (has_lawful_value a)

shorts : (attrs : List Attr) → All FitsAttr (map normal attrs) → All HasKind (map normal attrs) → All IsLawful (map normal attrs) → spelled_bytes (map normal attrs) ≤ 1024 → All IsShort attrs
shorts [] fits kinds lawful room = All-nil IsShort
shorts (a ∷ attrs) fits kinds lawful room =
    All-cons IsShort a attrs
    (record {
      fits = All-head FitsAttr (normal a) (map normal attrs) fits;
      kind = All-head HasKind (normal a) (map normal attrs) kinds;
      lawful = All-head IsLawful (normal a) (map normal attrs) lawful;
      short = omega (arith, room);
    })
    (shorts attrs (All-tail FitsAttr (normal a) (map normal attrs) fits) (All-tail HasKind (normal a) (map normal attrs) kinds) (All-tail IsLawful (normal a) (map normal attrs) lawful) (omega (arith, room)))

rise_back : (attrs : List Attr) → TypesRise (map normal attrs) → TypesRise attrs
rise_back [] rise = tt
rise_back (a ∷ []) rise = tt
rise_back (a ∷ b ∷ attrs) rise = (rise.0, rise_back (b ∷ attrs) rise.1)

rise_there : (attrs : List Attr) → TypesRise attrs → TypesRise (map normal attrs)
rise_there [] rise = tt
rise_there (a ∷ []) rise = tt
rise_there (a ∷ b ∷ attrs) rise = (rise.0, rise_there (b ∷ attrs) rise.1)

pub spelled_but_room : (r : Record) → FitsRecord (normal_record r) → FitsButRoom r
spelled_but_room r fits =
    let room : spelled_bytes (map normal r.attrs) ≤ 1024 = omega (arith, fits.used) in
    record {
      head = fits.head;
      attrs = shorts r.attrs fits.attrs fits.kinds fits.lawful room;
      rise = rise_back r.attrs fits.rise;
      few = omega (arith, room, spelled_count (map normal r.attrs), length-map r.attrs normal);
    }

sum_short : (attrs : List Attr) → All IsShort attrs → spelled_bytes (map normal attrs) ≤ 2 ^ 21 * length attrs
sum_short [] short = omega arith
sum_short (a ∷ attrs) short = (let first = All-head IsShort a attrs short in omega (arith, sum_short attrs (All-tail IsShort a attrs short), first.short))

pub but_room_fits : (r : Record) → FitsButRoom r → FitsByRoom r
but_room_fits r fits =
    let attrs = All-map FitsAttr normal r.attrs (All-weaker IsShort (λ (a : Attr). FitsAttr (normal a)) (λ (a : Attr) (s : IsShort a). s.fits) r.attrs fits.attrs) in
    let kinds = All-map HasKind normal r.attrs (All-weaker IsShort (λ (a : Attr). HasKind (normal a)) (λ (a : Attr) (s : IsShort a). s.kind) r.attrs fits.attrs) in
    let lawful = All-map IsLawful normal r.attrs (All-weaker IsShort (λ (a : Attr). IsLawful (normal a)) (λ (a : Attr) (s : IsShort a). s.lawful) r.attrs fits.attrs) in
    record {
      attrs = attrs;
      countable = omega (arith, sum_short r.attrs fits.attrs, fits.few);
      fits = (λ spelled. spelled.used, λ room. record { head = fits.head; attrs = attrs; kinds = kinds; rise = rise_there r.attrs fits.rise; lawful = lawful; used = room });
    }

-- ---- types that rise from one on

abbrev RiseFrom : ℕ → List Attr → Type 0
RiseFrom least [] = Unit {0}
RiseFrom least (a ∷ attrs) = (least ≤ a.head.kind) × RiseFrom a.head.kind attrs

rise_from : (a : Attr) (attrs : List Attr) → TypesRise (a ∷ attrs) → RiseFrom a.head.kind attrs
rise_from a [] rise = tt
rise_from a (b ∷ attrs) rise = (rise.0, rise_from b attrs rise.1)

rise_all : (attrs : List Attr) → TypesRise attrs → RiseFrom 0 attrs
rise_all [] rise = tt
rise_all (a ∷ attrs) rise = (omega arith, rise_from a attrs rise)

rise_is : (a : Attr) (attrs : List Attr) → RiseFrom a.head.kind attrs → TypesRise (a ∷ attrs)
rise_is a [] rise = tt
rise_is a (b ∷ attrs) rise = (rise.0, rise_is b attrs rise.1)

rise_types : (attrs : List Attr) → RiseFrom 0 attrs → TypesRise attrs
rise_types [] rise = tt
rise_types (a ∷ attrs) rise = rise_is a attrs rise.1

rise_less : (least other : ℕ) (attrs : List Attr) → other ≤ least → RiseFrom least attrs → RiseFrom other attrs
rise_less least other [] le rise = tt
rise_less least other (a ∷ attrs) le rise = (omega (arith, rise.0), rise.1)

rise_step : (p : Attr → Bool) (least : ℕ) (a : Attr) (attrs : List Attr) (t : Bool) → p a ≡ t → least ≤ a.head.kind → RiseFrom a.head.kind (filter p attrs) → RiseFrom least (cond t (a ∷ filter p attrs) (filter p attrs))
rise_step p least a attrs true is le rise = (le, rise)
rise_step p least a attrs false is le rise = rise_less a.head.kind least (filter p attrs) le rise

rise_filter : (p : Attr → Bool) (least : ℕ) (attrs : List Attr) → RiseFrom least attrs → RiseFrom least (filter p attrs)
rise_filter p least [] rise = tt
rise_filter p least (a ∷ attrs) rise = rise_step p least a attrs (p a) refl rise.0 (rise_filter p a.head.kind attrs rise.1)

-- ---- one attribute in the place of a stream's

pub with_none : (kind : ℕ) (name : List ℕ) (new a : Attr) (attrs : List Attr) → is_attribute_of kind name a ≡ false → with_stream kind name new (a ∷ attrs) ≡ a ∷ with_stream kind name new attrs
with_none kind name new a attrs is = ap (λ (t : Bool). cond t (new ∷ without_stream kind name attrs) (a ∷ with_stream kind name new attrs)) is

pub with_one : (kind : ℕ) (name : List ℕ) (new a : Attr) (attrs : List Attr) → is_attribute_of kind name a ≡ true → with_stream kind name new (a ∷ attrs) ≡ new ∷ without_stream kind name attrs
with_one kind name new a attrs is = ap (λ (t : Bool). cond t (new ∷ without_stream kind name attrs) (a ∷ with_stream kind name new attrs)) is

rise_with : (kind : ℕ) (name : List ℕ) (new : Attr) (least : ℕ) (attrs : List Attr) → ((a : Attr) → is_attribute_of kind name a ≡ true → a.head.kind ≡ new.head.kind) → RiseFrom least attrs → RiseFrom least (with_stream kind name new attrs)
rise_with kind name new least [] same rise = tt
rise_with kind name new least (a ∷ attrs) same rise = elim (cases_Bool (is_attribute_of kind name a)) [
  | inl is ↦
      (let e : a.head.kind ≡ new.head.kind = same a is in
      let p : Attr → Bool = λ b. not (is_attribute_of kind name b) in
      subst (RiseFrom least) (sym (with_one kind name new a attrs is)) (omega (arith, rise.0, e), rise_filter p new.head.kind attrs (rise_less a.head.kind new.head.kind attrs (omega (arith, e)) rise.1)))
  | inr is ↦ subst (RiseFrom least) (sym (with_none kind name new a attrs is)) (rise.0, rise_with kind name new a.head.kind attrs same rise.1)
]

pub types_with : (kind : ℕ) (name : List ℕ) (new : Attr) (attrs : List Attr) → ((a : Attr) → is_attribute_of kind name a ≡ true → a.head.kind ≡ new.head.kind) → TypesRise attrs → TypesRise (with_stream kind name new attrs)
types_with kind name new attrs same rise = rise_types (with_stream kind name new attrs) (rise_with kind name new 0 attrs same (rise_all attrs rise))

pub all_with : (P : Attr → Type 0) (kind : ℕ) (name : List ℕ) (new : Attr) (attrs : List Attr) → P new → All P attrs → All P (with_stream kind name new attrs)
all_with P kind name new [] here all = All-nil P
all_with P kind name new (a ∷ attrs) here all =
    let first = All-head P a attrs all in
    let rest = All-tail P a attrs all in
    elim (cases_Bool (is_attribute_of kind name a)) [
      | inl is ↦ subst (All P) (sym (with_one kind name new a attrs is)) (All-cons P new (without_stream kind name attrs) here (All-filter (λ (b : Attr). not (is_attribute_of kind name b)) P attrs rest))
      | inr is ↦ subst (All P) (sym (with_none kind name new a attrs is)) (All-cons P a (with_stream kind name new attrs) first (all_with P kind name new attrs here rest))
    ]

filter_short : (p : Attr → Bool) (attrs : List Attr) → length (filter p attrs) ≤ length attrs
filter_short p [] = omega arith
filter_short p (a ∷ attrs) = step (p a) (filter_short p attrs)
  where
    step : (t : Bool) → length (filter p attrs) ≤ length attrs → length (cond t (a ∷ filter p attrs) (filter p attrs)) ≤ suc (length attrs)
    step true rest = omega (arith, rest)
    step false rest = omega (arith, rest)

pub few_with : (kind : ℕ) (name : List ℕ) (new : Attr) (attrs : List Attr) → length (with_stream kind name new attrs) ≤ length attrs
few_with kind name new [] = omega arith
few_with kind name new (a ∷ attrs) = elim (cases_Bool (is_attribute_of kind name a)) [
  | inl is ↦ omega (arith, ap length (with_one kind name new a attrs is), filter_short (λ (b : Attr). not (is_attribute_of kind name b)) attrs)
  | inr is ↦ omega (arith, ap length (with_none kind name new a attrs is), few_with kind name new attrs)
]

-- ---- the attributes of a stream are among all

all_put : (P : Attr → Type 0) (a : Attr) (attributes : List Attr) → P a → All P attributes → All P (with_attribute a attributes)
all_put P a [] here all = All-cons P a [] here (All-nil P)
all_put P a (b ∷ attributes) here all =
    let first = All-head P b attributes all in
    let rest = All-tail P b attributes all in
    elim (ltb (first_vcn a) (first_vcn b)) as (λ t. All P (cond t (a ∷ b ∷ attributes) (b ∷ with_attribute a attributes))) [
      | true ↦ All-cons P a (b ∷ attributes) here all
      | false ↦ All-cons P b (with_attribute a attributes) first (all_put P a attributes here rest)
    ]

all_sorted : (P : Attr → Type 0) (attributes attrs : List Attr) → All P attributes → All P attrs → All P (sorted_into attributes attrs)
all_sorted P attributes [] done all = done
all_sorted P attributes (a ∷ attrs) done all = all_sorted P (with_attribute a attributes) attrs (all_put P a attributes (All-head P a attrs all) done) (All-tail P a attrs all)

pub all_of_stream : (P : Attr → Type 0) (kind : ℕ) (name : List ℕ) (attrs : List Attr) → All P (filter (is_attribute_of kind name) attrs) → All P (attributes_of kind name attrs)
unfolding attributes_of
all_of_stream P kind name attrs all = all_sorted P [] (filter (is_attribute_of kind name) attrs) (All-nil P) all
