-- The lowest clear bit is that of the least spare number.
use Rattle.std.proofs.Common.{◌≡◌, ℕ, zero, suc, ◌+◌, ◌-◌, ◌<◌, ◌≤◌, Bool, true, false, cond, List, length, Option, Some, None, refl, sym, ap, ◌∙◌, inl, inr, arith}
use Rattle.std.specs.Prelude.{nat_lt}
use Rattle.std.specs.List.{range_with_len, filter_map, cons_option}
use Rattle.std.proofs.lemmas.Bool.{cases_lt, le-ltb}
use Rattle.host_base.specs.declared.file_ref.FileRef.{FileRef}
use Rattle.bit_set.specs.Bits.{bit}
use Rattle.tree_model.specs.Effects.{lesser_ref, least_ref}
use Rattle.volume_lookup.specs.volume_map.declared.head.Head.{Head}
use Rattle.volume_lookup.specs.volume_map.Heads.{head_in, spare_of, spares_of}
use Rattle.volume_census.specs.Lowest.{IsLowestSpare}

-- ---- the least of what numbers give

abbrev pub IsNumbered : (ℕ → Option FileRef) → Type 0
IsNumbered f = (n : ℕ) (x : FileRef) → f n ≡ Some x → x.number ≡ n

-- what is least is not below
abbrev NotBelow : ℕ → Option FileRef → Type 0
NotBelow from o = (x : FileRef) → o ≡ Some x → from ≤ x.number

lesser_not_below : (from : ℕ) (a : FileRef) (o : Option FileRef) → from ≤ a.number → NotBelow from o → from ≤ (lesser_ref a o).number
lesser_not_below from a None here rest = here
lesser_not_below from a (Some b) here rest = by_test (nat_lt b.number a.number)
  where
    by_test : (t : Bool) → from ≤ (cond t b a).number
    by_test true = rest b refl
    by_test false = here

least_with : (from : ℕ) (o : Option FileRef) (refs : List FileRef) → ((x : FileRef) → o ≡ Some x → from ≤ x.number) → NotBelow from (least_ref refs) → NotBelow from (least_ref (cons_option o refs))
unfolding least_ref
least_with from None refs here rest x is = rest x is
least_with from (Some a) refs here rest x is =
    let same : lesser_ref a (least_ref refs) ≡ x = cc in
    let low = lesser_not_below from a (least_ref refs) (here a refl) rest in
    let number : (lesser_ref a (least_ref refs)).number ≡ x.number = ap (λ (y : FileRef). y.number) same in
    omega (arith, low, number)

not_below : (f : ℕ → Option FileRef) → IsNumbered f → (from first len : ℕ) → from ≤ first → NotBelow from (least_ref (filter_map f (range_with_len first len)))
unfolding least_ref
not_below f numbered from first zero low x is = absurd cc
not_below f numbered from first (suc len) low x is =
    least_with from (f first) (filter_map f (range_with_len (first + 1) len)) (λ y there. (let number = numbered first y there in omega (arith, low, number))) (not_below f numbered from (first + 1) len (omega (arith, low))) x is

lesser_is : (a : FileRef) (o : Option FileRef) → NotBelow a.number o → lesser_ref a o ≡ a
lesser_is a None low = refl
lesser_is a (Some b) low = ap (λ (t : Bool). cond t b a) (le-ltb b.number a.number (low b refl))

first_is_least : (f : ℕ → Option FileRef) → IsNumbered f → (at len : ℕ) (ref : FileRef) → f at ≡ Some ref → least_ref (filter_map f (range_with_len at (suc len))) ≡ Some ref
unfolding least_ref
first_is_least f numbered at len ref is =
    ap (λ (o : Option FileRef). least_ref (cons_option o (filter_map f (range_with_len (at + 1) len)))) is
    ∙ ap (λ (x : FileRef). Some x) (lesser_is ref (least_ref (filter_map f (range_with_len (at + 1) len))) (λ x found. (let number = numbered at ref is in let low = not_below f numbered (at + 1) (at + 1) len (omega arith) x found in omega (arith, number, low))))

skip_one : (f : ℕ → Option FileRef) (first len : ℕ) → f first ≡ None → filter_map f (range_with_len first (suc len)) ≡ filter_map f (range_with_len (first + 1) len)
skip_one f first len none = ap (λ (o : Option FileRef). cons_option o (filter_map f (range_with_len (first + 1) len))) none

-- the first of them that gives something
found_least : (f : ℕ → Option FileRef) → IsNumbered f → (at first len : ℕ) (ref : FileRef) → first ≤ at → at < first + len → ((i : ℕ) → first ≤ i → i < at → f i ≡ None) → f at ≡ Some ref → least_ref (filter_map f (range_with_len first len)) ≡ Some ref
found_least f numbered at first zero ref low high none is = absurd (omega (arith, low, high))
found_least f numbered at first (suc len) ref low high none is = elim (cases_lt first at) [
  | inl less ↦
      ap least_ref (skip_one f first len (none first (omega arith) less))
      ∙ found_least f numbered at (first + 1) len ref (omega (arith, less)) (omega (arith, high)) (λ i from to. none i (omega (arith, from)) to) is
  | inr past ↦ (let same : at ≡ first = omega (arith, low, past) in first_is_least f numbered first len ref (ap f (sym same) ∙ is))
]

none_least : (f : ℕ → Option FileRef) (first len : ℕ) → ((i : ℕ) → first ≤ i → i < first + len → f i ≡ None) → least_ref (filter_map f (range_with_len first len)) ≡ None
unfolding least_ref
none_least f first zero none = refl
none_least f first (suc len) none =
    ap least_ref (skip_one f first len (none first (omega arith) (omega arith)))
    ∙ none_least f (first + 1) len (λ i from to. none i (omega (arith, from)) (omega (arith, to)))

-- ---- spare numbers

spare_if : (t : Bool) (n seq : ℕ) (x : FileRef) → cond t None (Some (let r : FileRef = record { number = n; seq = seq } in r)) ≡ Some x → x.number ≡ n
spare_if true n seq x is = absurd cc
spare_if false n seq x is = (let r : FileRef = record { number = n; seq = seq } in let same : r ≡ x = cc in ap (λ (y : FileRef). y.number) (sym same))

spare_number : (heads : List Head) (bits : List Bool) → IsNumbered (spare_of heads bits)
unfolding spare_of
spare_number heads bits n x is = spare_if (bit bits n) n (head_in heads n).sequence x is

spare_none : (heads : List Head) (bits : List Bool) (n : ℕ) → bit bits n ≡ true → spare_of heads bits n ≡ None
unfolding spare_of
spare_none heads bits n set = ap (λ (t : Bool). cond t None (Some (let r : FileRef = record { number = n; seq = (head_in heads n).sequence } in r))) set

spare_some : (heads : List Head) (bits : List Bool) (n : ℕ) → bit bits n ≡ false → spare_of heads bits n ≡ Some (record { number = n; seq = (head_in heads n).sequence })
unfolding spare_of
spare_some heads bits n clear = ap (λ (t : Bool). cond t None (Some (let r : FileRef = record { number = n; seq = (head_in heads n).sequence } in r))) clear

pub least_there : (heads : List Head) (bits : List Bool) (number : ℕ) → IsLowestSpare bits number → number < length heads → least_ref (spares_of heads bits) ≡ Some (record { number = number; seq = (head_in heads number).sequence })
least_there heads bits number k below =
    found_least (spare_of heads bits) (spare_number heads bits) number 24 (length heads - 24) (record { number = number; seq = (head_in heads number).sequence }) k.behind (omega (arith, below, k.behind)) (λ i from to. spare_none heads bits i (k.lowest i from to)) (spare_some heads bits number k.clear)

pub least_none : (heads : List Head) (bits : List Bool) (number : ℕ) → IsLowestSpare bits number → length heads ≤ number → least_ref (spares_of heads bits) ≡ None
least_none heads bits number k past = none_least (spare_of heads bits) 24 (length heads - 24) (λ i from to. spare_none heads bits i (k.lowest i from (omega (arith, past, from, to))))
