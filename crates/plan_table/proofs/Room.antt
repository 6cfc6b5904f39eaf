-- How many clusters runs have, counted cluster by cluster.
use Rattle.std.proofs.Common.{◌≡◌, ℕ, zero, suc, ◌+◌, ◌-◌, ◌<◌, ◌≤◌, min, max, Bool, true, false, not, ◌&&◌, cond, leb, ltb, List, [], ◌∷◌, Option, Some, None, refl, sym, ◌∙◌, inl, inr, arith}
use Rattle.std.specs.Prelude.{count_by}
use Rattle.std.specs.List.{list_all, list_any, range_with_len, sum_by}
use Rattle.std.specs.Option.{is_some}
use Rattle.std.proofs.lemmas.Bool.{cases_lt, and_parts, and_from, or_parts, leb-true, ltb-true, le-leb, lt-ltb}
use Rattle.std.proofs.lemmas.List.Sums.{sum_by-cons}
use Rattle.record_model.specs.declared.runs.Run.{Run}
use Rattle.state_model.specs.Loads.{total_clusters}
use Rattle.volume_model.specs.Owners.{covers, covers_from, uses}
use Rattle.volume_model.specs.Sizes.{is_hole, lies_below, lies_inside}
use Rattle.stream_laws.proofs.Sharing.{uses-none}
use Rattle.stream_runs.proofs.Merging.{uses-cons}

-- ---- sums

no_sum : {X : Type 0} (f : X → ℕ) → sum_by f [] ≡ 0
no_sum f = refl

sum_none : {X : Type 0} (h : X → ℕ) (xs : List X) → ((x : X) → h x ≡ 0) → sum_by h xs ≡ 0
sum_none h [] none = no_sum h
sum_none h (x ∷ xs) none = omega (arith, sum_by-cons h x xs, none x, sum_none h xs none)

sum_two : {X : Type 0} (f g h : X → ℕ) (xs : List X) → ((x : X) → h x ≡ f x + g x) → sum_by h xs ≡ sum_by f xs + sum_by g xs
sum_two f g h [] both = omega (arith, no_sum f, no_sum g, no_sum h)
sum_two f g h (x ∷ xs) both = omega (arith, sum_by-cons f x xs, sum_by-cons g x xs, sum_by-cons h x xs, both x, sum_two f g h xs both)

abbrev tally : Bool → ℕ
tally t = cond t 1 0

-- a count of tests is a sum of what they count for
pub count_as_sum : (p : ℕ → Bool) (h : ℕ → ℕ) (a n : ℕ) → ((x : ℕ) → a ≤ x → x < a + n → tally (p x) ≡ h x) → count_by p (range_with_len a n) ≡ sum_by h (range_with_len a n)
count_as_sum p h a zero each = no_sum h
count_as_sum p h a (suc n) each =
    let here = each a (omega arith) (omega arith) in
    omega (arith, sum_by-cons (λ x. tally (p x)) a (range_with_len (a + 1) n), sum_by-cons h a (range_with_len (a + 1) n), here, count_as_sum p h (a + 1) n (λ x low high. each x (omega (arith, low)) (omega (arith, high))))

pub sum_of_two : (f g h : ℕ → ℕ) (a n : ℕ) → ((x : ℕ) → h x ≡ f x + g x) → sum_by h (range_with_len a n) ≡ sum_by f (range_with_len a n) + sum_by g (range_with_len a n)
sum_of_two f g h a n both = sum_two f g h (range_with_len a n) both

pub sum_of_none : (h : ℕ → ℕ) (a n : ℕ) → ((x : ℕ) → h x ≡ 0) → sum_by h (range_with_len a n) ≡ 0
sum_of_none h a n none = sum_none h (range_with_len a n) none

-- ---- a run

one_place : (a len x : ℕ) (t : Bool) → (leb a x && ltb x (a + len)) ≡ t → tally t ≡ min (x + 1) (a + len) - max x a
one_place a len x true is = (let both = and_parts (leb a x) (ltb x (a + len)) is in let low = leb-true a x both.0 in let high = ltb-true x (a + len) both.1 in omega (arith, low, high))
one_place a len x false is = elim (cases_lt x a) [
  | inl before ↦ omega (arith, before)
  | inr from ↦ elim (cases_lt x (a + len)) [
    | inl inside ↦ (let never : true ≡ false = sym (and_from (leb a x) (ltb x (a + len)) (le-leb a x from) (lt-ltb x (a + len) inside)) ∙ is in absurd cc)
    | inr past ↦ omega (arith, past)
  ]
]

run_places : (a len s n : ℕ) → sum_by (λ x. tally (leb a x && ltb x (a + len))) (range_with_len s n) ≡ min (s + n) (a + len) - max s a
run_places a len s zero = omega (arith, no_sum {X = ℕ} (λ x. tally (leb a x && ltb x (a + len))))
run_places a len s (suc n) =
    omega (arith, sum_by-cons (λ x. tally (leb a x && ltb x (a + len))) s (range_with_len (s + 1) n), one_place a len s (leb a s && ltb s (a + len)) refl, run_places a len (s + 1) n)

run_sum : (o : Option ℕ) (len n : ℕ) → not (is_some o) ≡ false → lies_below n len o ≡ true → sum_by (λ x. tally (covers_from x len o)) (range_with_len 0 n) ≡ len
run_sum None len n whole inside = absurd cc
run_sum (Some lcn) len n whole inside = (let end = leb-true (lcn + len) n inside in omega (arith, end, run_places lcn len 0 n))

-- runs that lie in a volume, none of them sparse, have as many clusters there as they have
pub uses_sum : (runs : List Run) (n : ℕ) → list_any is_hole runs ≡ false → list_all (lies_inside n) runs ≡ true → sum_by (uses runs) (range_with_len 0 n) ≡ total_clusters runs
uses_sum [] n whole inside = sum_of_none (uses []) 0 n uses-none
uses_sum (r ∷ runs) n whole inside =
    let none = or_parts (is_hole r) (list_any is_hole runs) whole in
    let all = and_parts (lies_inside n r) (list_all (lies_inside n) runs) inside in
    let parts = sum_of_two (λ x. tally (covers x r)) (uses runs) (uses (r ∷ runs)) 0 n (uses-cons r runs) in
    omega (arith, parts, run_sum r.lcn r.len n none.0 all.0, uses_sum runs n none.1 all.1)
