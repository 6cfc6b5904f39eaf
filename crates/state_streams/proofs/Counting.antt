-- Runs that have each cluster once have no more clusters than the volume in which they lie.
use Rattle.std.proofs.Common.{◌≡◌, ℕ, zero, suc, ◌+◌, ◌<◌, ◌≤◌, Bool, true, false, not, ◌&&◌, cond, leb, ltb, List, [], ◌∷◌, Option, Some, None, refl, sym, ap, ◌∙◌, inl, inr, arith}
use Rattle.std.specs.Prelude.{is_some}
use Rattle.std.specs.List.{list_all, list_any}
use Rattle.std.proofs.lemmas.Bool.{cases_lt, and_parts, or_parts, leb-true, le-leb, lt-leb, lt-ltb, le-ltb}
use Rattle.plan_growth.specs.record_model.declared.runs.Run.{Run}
use Rattle.plan_growth.specs.state_model.Loads.{total_clusters}
use Rattle.plan_growth.specs.volume_model.Owners.{covers_from, covers, uses}
use Rattle.plan_growth.specs.volume_model.Sizes.{lies_below, lies_inside, is_hole}
use Rattle.plan_growth.specs.stream_laws.Places.{AreOnce}
use Rattle.plan_growth.proofs.stream_runs.Merging.{uses-cons}

-- the sum below a bound
abbrev sum : (ℕ → ℕ) → ℕ → ℕ
sum f zero = 0
sum f (suc n) = sum f n + f n

sum_of_both : (f g h : ℕ → ℕ) (n : ℕ) → ((x : ℕ) → h x ≡ f x + g x) → sum h n ≡ sum f n + sum g n
sum_of_both f g h zero is = refl
sum_of_both f g h (suc n) is = omega (arith, sum_of_both f g h n is, is n)

sum_of_ones : (f : ℕ → ℕ) (n : ℕ) → ((x : ℕ) → f x ≤ 1) → sum f n ≤ n
sum_of_ones f zero each = omega arith
sum_of_ones f (suc n) each = omega (arith, sum_of_ones f n each, each n)

sum_of_none : (f : ℕ → ℕ) (n : ℕ) → ((x : ℕ) → f x ≡ 0) → sum f n ≡ 0
sum_of_none f zero each = refl
sum_of_none f (suc n) each = omega (arith, sum_of_none f n each, each n)

abbrev one_if_in : ℕ → ℕ → ℕ → ℕ
one_if_in first len x = cond (leb first x && ltb x (first + len)) 1 0

before_is : (first len x : ℕ) → x < first → one_if_in first len x ≡ 0
before_is first len x low = ap (λ (t : Bool). cond {A = ℕ} (t && ltb x (first + len)) 1 0) (lt-leb first x low)

there_is : (first len x : ℕ) → first ≤ x → x < first + len → one_if_in first len x ≡ 1
there_is first len x low high = ap (λ (t : Bool). cond {A = ℕ} (t && ltb x (first + len)) 1 0) (le-leb first x low) ∙ ap (λ (t : Bool). cond {A = ℕ} t 1 0) (lt-ltb x (first + len) high)

behind_is : (first len x : ℕ) → first ≤ x → first + len ≤ x → one_if_in first len x ≡ 0
behind_is first len x low high = ap (λ (t : Bool). cond {A = ℕ} (t && ltb x (first + len)) 1 0) (le-leb first x low) ∙ ap (λ (t : Bool). cond {A = ℕ} t 1 0) (le-ltb x (first + len) high)

-- up to a bound, those of a run are counted as far as they lie below it
pub record CountsTo (first len n count : ℕ) : Type 0 where
  before : n ≤ first → count ≡ 0
  there : first ≤ n → n ≤ first + len → first + count ≡ n
  behind : first + len ≤ n → count ≡ len

counted : (first len n : ℕ) → CountsTo first len n (sum (one_if_in first len) n)
counted first len zero = record { before = λ low. refl; there = λ low high. omega (arith, low); behind = λ high. omega (arith, high) }
counted first len (suc n) =
    let less = counted first len n in
    elim (cases_lt n first) [
      | inl low ↦
          (let none = before_is first len n low in
          let count = less.before (omega (arith, low)) in
          record { before = λ below. omega (arith, none, count); there = λ from to. omega (arith, none, count, from, low); behind = λ high. omega (arith, none, count, high, low) })
      | inr from ↦ elim (cases_lt n (first + len)) [
        | inl to ↦
            (let one = there_is first len n from to in
            let count = less.there from (omega (arith, to)) in
            record { before = λ below. absurd (omega (arith, below, from)); there = λ low high. omega (arith, one, count); behind = λ high. omega (arith, one, count, high, to) })
        | inr past ↦
            (let none = behind_is first len n from past in
            let count = less.behind past in
            record { before = λ below. absurd (omega (arith, below, from)); there = λ low high. absurd (omega (arith, high, past)); behind = λ high. omega (arith, none, count) })
      ]
    ]

run_sum : (r : Run) (lcn : Option ℕ) (n : ℕ) → r.lcn ≡ lcn → not (is_hole r) ≡ true → lies_inside n r ≡ true → sum (λ x. cond (covers x r) 1 0) n ≡ r.len
run_sum r None n is whole inside = (let clash : false ≡ true = sym (ap (λ (o : Option ℕ). is_some o) is) ∙ is_whole r whole in absurd cc)
  where
    twice : (b : Bool) → not (not b) ≡ b
    twice true = refl
    twice false = refl

    is_whole : (r : Run) → not (is_hole r) ≡ true → is_some r.lcn ≡ true
    is_whole r whole = sym (twice (is_some r.lcn)) ∙ whole
run_sum r (Some first) n is whole inside =
    let ends : first + r.len ≤ n = leb-true (first + r.len) n (sym (ap (lies_below n r.len) is) ∙ inside) in
    same_sum (λ x. cond (covers x r) 1 0) (one_if_in first r.len) n (λ x. ap (λ (o : Option ℕ). cond {A = ℕ} (covers_from x r.len o) 1 0) is)
    ∙ (counted first r.len n).behind ends
  where
    same_sum : (f g : ℕ → ℕ) (n : ℕ) → ((x : ℕ) → f x ≡ g x) → sum f n ≡ sum g n
    same_sum f g zero each = refl
    same_sum f g (suc n) each = omega (arith, same_sum f g n each, each n)

runs_sum : (n : ℕ) (runs : List Run) → list_any is_hole runs ≡ false → list_all (lies_inside n) runs ≡ true → sum (uses runs) n ≡ total_clusters runs
unfolding uses
runs_sum n [] none all = sum_of_none (uses []) n (λ x. refl)
runs_sum n (r ∷ runs) none all =
    let whole = or_parts (is_hole r) (list_any is_hole runs) none in
    let parts = and_parts (lies_inside n r) (list_all (lies_inside n) runs) all in
    let first = run_sum r r.lcn n refl (ap not whole.0) parts.0 in
    let rest = runs_sum n runs whole.1 parts.1 in
    let both = sum_of_both (λ x. cond (covers x r) 1 0) (uses runs) (uses (r ∷ runs)) n (λ x. uses-cons r runs x) in
    omega (arith, both, first, rest)

pub few_clusters : (n : ℕ) (runs : List Run) → list_any is_hole runs ≡ false → list_all (lies_inside n) runs ≡ true → AreOnce runs → total_clusters runs ≤ n
few_clusters n runs none all once = (let sum_is = runs_sum n runs none all in let most = sum_of_ones (uses runs) n once in omega (arith, sum_is, most))
