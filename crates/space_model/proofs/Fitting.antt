-- Clear runs, and what is left of the bits when one was taken.
use Rattle.std.proofs.Common.{◌≡◌, ℕ, zero, suc, ◌+◌, ◌-◌, ◌<◌, ◌≤◌, ◌⊎◌, Bool, true, false, cond, not, List, [], ◌∷◌, length, refl, ap, ◌∙◌, inl, inr, arith}
use Rattle.std.specs.Prelude.{nat_le, count_by, drop, max}
use Rattle.std.proofs.lemmas.List.Sums.{sum_by-cons}
use Rattle.std.proofs.lemmas.Bool.{cases_lt}
use Rattle.std.proofs.lemmas.Bool.Decides.{nat_tests}
use Rattle.std.proofs.Math.Nat.{max-le, le-max_left, le-max_right}
use Rattle.bit_set.specs.Bits.{bit, IsClearRun}
use Rattle.space_model.specs.Choosing.{clear_front, longest_clear, lowest_fit, with_run}

pub no_run : (bits : List Bool) (first : ℕ) → first ≤ length bits → IsClearRun bits first 0
no_run bits first within = record { inside = omega arith; clear = λ i le lt. absurd (omega arith) }

one_longer : (bits : List Bool) (n : ℕ) → IsClearRun bits 0 n → IsClearRun (false ∷ bits) 0 (suc n)
one_longer bits n run = record { inside = (let e : 0 + n ≤ length bits = run.inside in omega arith); clear = at }
  where
    at : (i : ℕ) → 0 ≤ i → i < 0 + suc n → bit (false ∷ bits) i ≡ false
    at zero le lt = refl
    at (suc i) le lt = run.clear i (omega arith) (omega arith)

-- as many bits as are clear at the front are a run
pub front_clear : (bits : List Bool) (n : ℕ) → n ≤ clear_front bits → IsClearRun bits 0 n
unfolding clear_front
front_clear [] zero le = no_run [] 0 (omega arith)
front_clear [] (suc n) le = absurd (omega arith)
front_clear (true ∷ bits) zero le = no_run (true ∷ bits) 0 (omega arith)
front_clear (true ∷ bits) (suc n) le = absurd (omega arith)
front_clear (false ∷ bits) zero le = no_run (false ∷ bits) 0 (omega arith)
front_clear (false ∷ bits) (suc n) le = one_longer bits n (front_clear bits n (omega arith))

pub run_behind : (b : Bool) (bits : List Bool) (first n : ℕ) → IsClearRun bits first n → IsClearRun (b ∷ bits) (suc first) n
run_behind b bits first n run = record { inside = (let e : first + n ≤ length bits = run.inside in omega arith); clear = at }
  where
    at : (i : ℕ) → suc first ≤ i → i < suc first + n → bit (b ∷ bits) i ≡ false
    at zero le lt = absurd (omega arith)
    at (suc i) le lt = run.clear i (omega arith) (omega arith)

-- a run behind so many bits
pub run_dropped : (k : ℕ) (bits : List Bool) (n : ℕ) → 0 < n → IsClearRun (drop k bits) 0 n → IsClearRun bits k n
run_dropped zero bits n some run = run
run_dropped (suc k) [] n some run = absurd (let e : 0 + n ≤ 0 = run.inside in omega arith)
run_dropped (suc k) (b ∷ bits) n some run = run_behind b bits k n (run_dropped k bits n some run)

max-cases : (a b n : ℕ) → n ≤ max a b → (n ≤ a) ⊎ (n ≤ b)
max-cases a b n le = elim (cases_lt a n) [
  | inl below ↦ elim (cases_lt b n) [ inl too ↦ absurd (let e : max a b ≤ n - 1 = max-le (omega arith) (omega arith) in omega arith) | inr later ↦ inr later ]
  | inr here ↦ inl here
]

fitted : (b : Bool) (bits : List Bool) (n : ℕ) (v : Bool) → nat_le n (clear_front (b ∷ bits)) ≡ v → n ≤ longest_clear (b ∷ bits) → (n ≤ longest_clear bits → IsClearRun bits (lowest_fit n bits) n) → IsClearRun (b ∷ bits) (cond v 0 (suc (lowest_fit n bits))) n
unfolding longest_clear
fitted b bits n true holds le next = front_clear (b ∷ bits) n (grind (arith, nat_tests))
fitted b bits n false holds le next =
    elim (max-cases (clear_front (b ∷ bits)) (longest_clear bits) n le) [
      | inl here ↦ absurd (grind (arith, nat_tests))
      | inr later ↦ run_behind b bits (lowest_fit n bits) n (next later)
    ]

-- where the longest run has as many bits, the lowest fit is a run of so many
pub fits : (bits : List Bool) (n : ℕ) → n ≤ longest_clear bits → IsClearRun bits (lowest_fit n bits) n
unfolding lowest_fit longest_clear
fits [] n le = no_runs n le
  where
    no_runs : (n : ℕ) → n ≤ 0 → IsClearRun [] 0 n
    no_runs zero le = no_run [] 0 (omega arith)
    no_runs (suc n) le = absurd (omega arith)
fits (b ∷ bits) n le = fitted b bits n (nat_le n (clear_front (b ∷ bits))) refl le (fits bits n)

pub counted : (b : Bool) (bits : List Bool) → count_by not (b ∷ bits) ≡ cond {A = ℕ} b 0 1 + count_by not bits
counted true bits = sum_by-cons (λ (b : Bool). cond {A = ℕ} (not b) 1 0) true bits
counted false bits = sum_by-cons (λ (b : Bool). cond {A = ℕ} (not b) 1 0) false bits

zero_more : (n : ℕ) → n ≡ 0 → 0 + n ≡ 0
zero_more n e = omega (arith, e)

-- where no run is clear, no bit is
pub none_clear : (bits : List Bool) → longest_clear bits ≡ 0 → count_by not bits ≡ 0
unfolding longest_clear clear_front
none_clear [] none = refl
none_clear (true ∷ bits) none = counted true bits ∙ zero_more (count_by not bits) (none_clear bits (let e : longest_clear bits ≤ max (clear_front (true ∷ bits)) (longest_clear bits) = le-max_right (clear_front (true ∷ bits)) (longest_clear bits) in omega (arith, none)))
none_clear (false ∷ bits) none = absurd (let e : suc (clear_front bits) ≤ max (suc (clear_front bits)) (longest_clear bits) = le-max_left (suc (clear_front bits)) (longest_clear bits) in omega (arith, none))

pub tail_run : (b : Bool) (bits : List Bool) (first n : ℕ) → IsClearRun (b ∷ bits) (suc first) n → IsClearRun bits first n
tail_run b bits first n run = record { inside = (let e : suc first + n ≤ suc (length bits) = run.inside in omega arith); clear = λ i le lt. run.clear (suc i) (omega arith) (omega arith) }

pub shorter_run : (b : Bool) (bits : List Bool) (n : ℕ) → IsClearRun (b ∷ bits) 0 (suc n) → IsClearRun bits 0 n
shorter_run b bits n run = record { inside = (let e : 0 + suc n ≤ suc (length bits) = run.inside in omega arith); clear = λ i le lt. run.clear (suc i) (omega arith) (omega arith) }

-- so many bits are clear no longer
pub counted_after : (first len : ℕ) (bits : List Bool) → IsClearRun bits first len → count_by not (with_run first len bits) + len ≡ count_by not bits
unfolding with_run
counted_after first len [] run = (let e : first + len ≤ 0 = run.inside in omega arith)
counted_after zero zero (b ∷ bits) run = omega arith
counted_after zero (suc len) (b ∷ bits) run =
    (let e : count_by not (true ∷ with_run 0 len bits) ≡ 0 + count_by not (with_run 0 len bits) = counted true (with_run 0 len bits) in
    let f : count_by not (b ∷ bits) ≡ 1 + count_by not bits = ap (λ (b : Bool). count_by not (b ∷ bits)) (run.clear 0 (omega arith) (omega arith)) ∙ counted false bits in
    let g : count_by not (with_run 0 len bits) + len ≡ count_by not bits = counted_after zero len bits (shorter_run b bits len run) in
    omega arith)
counted_after (suc first) len (b ∷ bits) run =
    (let e : count_by not (b ∷ with_run first len bits) ≡ cond {A = ℕ} b 0 1 + count_by not (with_run first len bits) = counted b (with_run first len bits) in
    let f : count_by not (b ∷ bits) ≡ cond {A = ℕ} b 0 1 + count_by not bits = counted b bits in
    let g : count_by not (with_run first len bits) + len ≡ count_by not bits = counted_after first len bits (tail_run b bits first len run) in
    omega arith)
