-- What comes of a file's record where its data is written or cut keeps its attribute lists.
use Rattle.std.proofs.Common.{◌≡◌, ℕ, Bool, true, false, cond, eqb, List, [], ◌∷◌, map, refl, ap, ◌∙◌, inl, inr, arith}
use Rattle.std.specs.Prelude.{insert}
use Rattle.std.proofs.lemmas.Bool.{cases_Bool, eqb-true}
use Rattle.std.proofs.lemmas.List.Sums.{sum_by-cons, sum_by-insert}
use Rattle.record_model.specs.declared.attribute.Attr.{Attr}
use Rattle.record_model.specs.Constants.{attribute_list, data_type, standard_information}
use Rattle.written_values.specs.record_writer.Normal.{normal}
use Rattle.state_model.specs.Streams.{is_attribute_of}
use Rattle.stream_laws.proofs.Sharing.{attribute_kind}
use Rattle.written_values.specs.plan_model.Informed.{is_info}
use Rattle.written_values.specs.record_streams.Placing.{without_stream, with_stream}
use Rattle.written_values.specs.record_times.Times.{timed_attr, timed_attrs}
use Rattle.names_stay.specs.Lists.{is_list, lists_of}

-- how many attribute lists one attribute is
abbrev one : Attr → ℕ
one a = cond (is_list a) 1 0

-- an attribute of another type is none
pub of_other : (a : Attr) (kind : ℕ) → a.head.kind ≡ kind → eqb kind attribute_list ≡ false → one a ≡ 0
of_other a kind is other = ap (λ (k : ℕ). cond (eqb k attribute_list) 1 0) is ∙ ap (λ (t : Bool). cond t 1 0) other

data_none : (a : Attr) → is_attribute_of data_type [] a ≡ true → one a ≡ 0
data_none a is = of_other a data_type (attribute_kind data_type [] a is).0 refl

without_data : (attrs : List Attr) → lists_of (without_stream data_type [] attrs) ≡ lists_of attrs
without_data [] = refl
without_data (a ∷ attrs) = elim (cases_Bool (is_attribute_of data_type [] a)) [
  | inl is ↦ rw is (let rest = without_data attrs in let none = data_none a is in let sum = sum_by-cons one a attrs in omega (arith, rest, none, sum))
  | inr is ↦ rw is (let rest = without_data attrs in let sum = sum_by-cons one a attrs in let now = sum_by-cons one a (without_stream data_type [] attrs) in omega (arith, rest, sum, now))
]

pub with_data : (new : Attr) (attrs : List Attr) → one new ≡ 0 → lists_of (with_stream data_type [] new attrs) ≡ lists_of attrs
with_data new [] none = refl
with_data new (a ∷ attrs) none = elim (cases_Bool (is_attribute_of data_type [] a)) [
  | inl is ↦
      rw is
      (let rest = without_data attrs in
      let old = data_none a is in
      let sum = sum_by-cons one a attrs in
      let now = sum_by-cons one new (without_stream data_type [] attrs) in
      omega (arith, rest, old, none, sum, now))
  | inr is ↦
      rw is
      (let rest = with_data new attrs none in
      let sum = sum_by-cons one a attrs in
      let now = sum_by-cons one a (with_stream data_type [] new attrs) in
      omega (arith, rest, sum, now))
]

pub inserted : (p : ℕ) (new : Attr) (attrs : List Attr) → one new ≡ 0 → lists_of (insert attrs p new) ≡ lists_of attrs
inserted p new attrs none = (let sum = sum_by-insert one attrs p new in omega (arith, sum, none))

pub each_normal : (attrs : List Attr) → lists_of (map normal attrs) ≡ lists_of attrs
each_normal [] = refl
each_normal (a ∷ attrs) =
    let rest = each_normal attrs in
    let same : one (normal a) ≡ one a = refl in
    let sum = sum_by-cons one a attrs in
    let now = sum_by-cons one (normal a) (map normal attrs) in
    omega (arith, rest, same, sum, now)

pub timed : (stamp : ℕ) (attrs : List Attr) → lists_of (timed_attrs stamp attrs) ≡ lists_of attrs
timed stamp [] = refl
timed stamp (a ∷ attrs) = elim (cases_Bool (is_info a)) [
  | inl is ↦
      (let kind : a.head.kind ≡ standard_information = eqb-true a.head.kind standard_information is in
      rw is
      (let old = of_other a standard_information kind refl in
      let put = of_other (timed_attr stamp a) standard_information kind refl in
      let sum = sum_by-cons one a attrs in
      let now = sum_by-cons one (timed_attr stamp a) attrs in
      omega (arith, old, put, sum, now)))
  | inr is ↦
      rw is
      (let rest = timed stamp attrs in
      let sum = sum_by-cons one a attrs in
      let now = sum_by-cons one a (timed_attrs stamp attrs) in
      omega (arith, rest, sum, now))
]
