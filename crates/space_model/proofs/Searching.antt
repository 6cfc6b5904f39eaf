-- What searches for clear runs say of a choice, and steps of one.
use Rattle.std.proofs.Common.{◌≡◌, ℕ, zero, suc, ◌+◌, ◌-◌, ◌<◌, ◌≤◌, ◌⊎◌, Bool, true, false, cond, not, List, [], ◌∷◌, length, refl, sym, ap, ◌∙◌, inl, inr, arith}
use Rattle.std.specs.Prelude.{◌==◌, nat_le, count_by, drop}
use Rattle.std.proofs.lemmas.Bool.{cases_lt, false≢true}
use Rattle.std.proofs.lemmas.Bool.Decides.{nat_tests}
use Rattle.std.proofs.lemmas.List.{ext_get_or}
use Rattle.std.proofs.Math.Nat.{le-max_left, le-max_right, min-eq_left, min-eq_right}
use Rattle.record_model.specs.declared.runs.Run.{Run}
use Rattle.bit_set.specs.Bits.{bit, IsClearRun, IsFirstRun, IsLongestRun, PutsRun}
use Rattle.space_model.specs.Choosing.{clear_front, longest_clear, lowest_fit, with_run, run_at, at_once, chosen_anywhere, behind}
use Rattle.space_model.proofs.Fitting.{front_clear, run_dropped, tail_run, shorter_run, fits, counted}
use Rattle.space_model.proofs.Lawful.{is_some, at_once-few, none_more, one_more, Then}

-- ---- a clear run, and the functions of the choice

pub front_holds : (bits : List Bool) (n : ℕ) → IsClearRun bits 0 n → n ≤ clear_front bits
unfolding clear_front
front_holds [] n run = (let e : 0 + n ≤ 0 = run.inside in omega arith)
front_holds (b ∷ bits) zero run = omega arith
front_holds (true ∷ bits) (suc n) run = (let e : true ≡ false = run.clear 0 (omega arith) (omega arith) in absurd (false≢true (sym e)))
front_holds (false ∷ bits) (suc n) run = (let e : n ≤ clear_front bits = front_holds bits n (shorter_run false bits n run) in omega arith)

pub holds_run : (bits : List Bool) (first n : ℕ) → IsClearRun bits first n → n ≤ longest_clear bits
unfolding longest_clear
holds_run [] first n run = (let e : first + n ≤ 0 = run.inside in omega arith)
holds_run (b ∷ bits) zero n run = (let e : n ≤ clear_front (b ∷ bits) = front_holds (b ∷ bits) n run in let f = le-max_left (clear_front (b ∷ bits)) (longest_clear bits) in omega (arith, f))
holds_run (b ∷ bits) (suc first) n run = (let e : n ≤ longest_clear bits = holds_run bits first n (tail_run b bits first n run) in let f = le-max_right (clear_front (b ∷ bits)) (longest_clear bits) in omega (arith, f))

fit_step : (b : Bool) (bits : List Bool) (first n : ℕ) (v : Bool) → nat_le n (clear_front (b ∷ bits)) ≡ v → IsClearRun (b ∷ bits) first n → ((k : ℕ) → IsClearRun bits k n → lowest_fit n bits ≤ k) → cond {A = ℕ} v 0 (suc (lowest_fit n bits)) ≤ first
fit_step b bits first n true holds run next = omega arith
fit_step b bits zero n false holds run next = absurd (let e : n ≤ clear_front (b ∷ bits) = front_holds (b ∷ bits) n run in grind (arith, nat_tests))
fit_step b bits (suc first) n false holds run next = (let e : lowest_fit n bits ≤ first = next first (tail_run b bits first n run) in omega arith)

-- no run of so many lies below the lowest fit
pub fit_below : (bits : List Bool) (first n : ℕ) → IsClearRun bits first n → lowest_fit n bits ≤ first
unfolding lowest_fit
fit_below [] first n run = omega arith
fit_below (b ∷ bits) first n run = fit_step b bits first n (nat_le n (clear_front (b ∷ bits))) refl run (λ k r. fit_below bits k n r)

pub first_is_fit : (bits : List Bool) (n first : ℕ) → IsFirstRun bits n first → lowest_fit n bits ≡ first
first_is_fit bits n first found =
    (let a : lowest_fit n bits ≤ first = fit_below bits first n found.run in
    let b : first ≤ lowest_fit n bits = found.lowest (lowest_fit n bits) (fits bits n (holds_run bits first n found.run)) in
    omega arith)

pub first_at_once : (bits : List Bool) (n first : ℕ) → IsFirstRun bits n first → at_once n bits ≡ n
unfolding at_once
first_at_once bits n first found = min-eq_left (holds_run bits first n found.run)

pub longest_is : (bits : List Bool) (first len : ℕ) → IsLongestRun bits first len → longest_clear bits ≡ len
longest_is bits first len found =
    (let a : len ≤ longest_clear bits = holds_run bits first len found.run in
    let b : longest_clear bits ≤ len = found.longest (lowest_fit (longest_clear bits) bits) (longest_clear bits) (fits bits (longest_clear bits) (omega arith)) in
    omega arith)

pub longest_is_fit : (bits : List Bool) (first len : ℕ) → IsLongestRun bits first len → lowest_fit len bits ≡ first
longest_is_fit bits first len found =
    (let a : lowest_fit len bits ≤ first = fit_below bits first len found.run in
    let b : first ≤ lowest_fit len bits = found.lowest (lowest_fit len bits) (fits bits len (holds_run bits first len found.run)) in
    omega arith)

-- where no run has as many, the longest is taken
pub longest_at_once : (bits : List Bool) (n first len : ℕ) → ((at : ℕ) → IsClearRun bits at n → ⊥) → IsLongestRun bits first len → at_once n bits ≡ len
unfolding at_once
longest_at_once bits n first len none found =
    elim (cases_lt (longest_clear bits) n) [
      | inl less ↦ min-eq_right (omega arith) ∙ longest_is bits first len found
      | inr enough ↦ absurd (none (lowest_fit n bits) (fits bits n enough))
    ]

pub all_set : (bits : List Bool) → ((i : ℕ) → i < length bits → bit bits i ≡ true) → count_by not bits ≡ 0
all_set [] set = refl
all_set (b ∷ bits) set =
    (let e : count_by not (b ∷ bits) ≡ 0 + count_by not bits = ap (λ (b : Bool). count_by not (b ∷ bits)) (set 0 (omega arith)) ∙ counted true bits in
    let f : count_by not bits ≡ 0 = all_set bits (λ i lt. set (suc i) (omega arith)) in
    omega (arith, e))

pub dropped_run : (k : ℕ) (bits : List Bool) (n : ℕ) → IsClearRun bits k n → IsClearRun (drop k bits) 0 n
dropped_run zero bits n run = run
dropped_run (suc k) [] n run = (let e : suc k + n ≤ 0 = run.inside in absurd (omega arith))
dropped_run (suc k) (b ∷ bits) n run = dropped_run k bits n (tail_run b bits k n run)

-- ---- steps of a choice

enough_step : (f g : ℕ) (bits : List Bool) (vcn n : ℕ) → n ≤ suc f → n ≤ suc g → (v : Bool) → (at_once n bits == 0) ≡ v
    → (n - at_once n bits ≤ f → n - at_once n bits ≤ g
    → chosen_anywhere f (with_run (lowest_fit (at_once n bits) bits) (at_once n bits) bits) (vcn + at_once n bits) (n - at_once n bits)
    ≡ chosen_anywhere g (with_run (lowest_fit (at_once n bits) bits) (at_once n bits) bits) (vcn + at_once n bits) (n - at_once n bits))
    → chosen_anywhere (suc f) bits vcn n ≡ chosen_anywhere (suc g) bits vcn n
enough_step f g bits vcn n le few true none next = none_more f bits vcn n none ∙ sym (none_more g bits vcn n none)
enough_step f g bits vcn n le few false some next =
    (let a : 0 < at_once n bits = is_some (at_once n bits) some in
    one_more f bits vcn n some ∙ ap (λ (rest : List Run). run_at vcn (lowest_fit (at_once n bits) bits) (at_once n bits) ∷ rest) (next (omega arith) (omega arith)) ∙ sym (one_more g bits vcn n some))

pub enough : (f g : ℕ) (bits : List Bool) (vcn n : ℕ) → n ≤ f → n ≤ g → chosen_anywhere f bits vcn n ≡ chosen_anywhere g bits vcn n
unfolding chosen_anywhere at_once
enough zero zero bits vcn n le few = refl
enough zero (suc g) bits vcn n le few = sym (none_more g bits vcn n (none_wanted n bits (omega arith)))
  where
    none_wanted : (n : ℕ) (bits : List Bool) → n ≡ 0 → (at_once n bits == 0) ≡ true
    none_wanted n bits e = (let f : at_once n bits ≤ n = at_once-few n bits in grind (arith, nat_tests))
enough (suc f) zero bits vcn n le few = none_more f bits vcn n (none_wanted n bits (omega arith))
  where
    none_wanted : (n : ℕ) (bits : List Bool) → n ≡ 0 → (at_once n bits == 0) ≡ true
    none_wanted n bits e = (let f : at_once n bits ≤ n = at_once-few n bits in grind (arith, nat_tests))
enough (suc f) (suc g) bits vcn n le few =
    enough_step f g bits vcn n le few (at_once n bits == 0) refl (enough f g (with_run (lowest_fit (at_once n bits) bits) (at_once n bits) bits) (vcn + at_once n bits) (n - at_once n bits))

-- One more run of a choice, where so many are wanted and clear: this many from this place on.
pub step_is : (bits : List Bool) (vcn n len first : ℕ) → 0 < len → at_once n bits ≡ len → lowest_fit len bits ≡ first
    → chosen_anywhere n bits vcn n ≡ run_at vcn first len ∷ chosen_anywhere (n - len) (with_run first len bits) (vcn + len) (n - len)
step_is bits vcn zero len first some once fit = absurd (let e : at_once 0 bits ≤ 0 = at_once-few 0 bits in omega arith)
step_is bits vcn (suc n) len first some once fit =
    one_more n bits vcn (suc n) (is_more (at_once (suc n) bits) len once some)
    ∙ ap (Then n bits vcn (suc n)) once
    ∙ ap (λ (at : ℕ). run_at vcn at len ∷ chosen_anywhere n (with_run at len bits) (vcn + len) (suc n - len)) fit
    ∙ ap (λ (rest : List Run). run_at vcn first len ∷ rest) (enough n (suc n - len) (with_run first len bits) (vcn + len) (suc n - len) (omega arith) (omega arith))
  where
    is_more : (m len : ℕ) → m ≡ len → 0 < len → (m == 0) ≡ false
    is_more m len e some = grind (arith, nat_tests)

-- the clear bits behind a cluster, as a search finds them
pub behind_is : (bits : List Bool) (last n count : ℕ) → IsClearRun bits (suc last) count → count ≤ n → (count < n → IsClearRun bits (suc last) (suc count) → ⊥) → behind last n bits ≡ count
unfolding behind
behind_is bits last n count run few ends =
    (let front : ℕ = clear_front (drop (suc last) bits) in
    let a : count ≤ clear_front (drop (suc last) bits) = front_holds (drop (suc last) bits) count (dropped_run (suc last) bits count run) in
    elim (cases_lt (clear_front (drop (suc last) bits)) n) [
      | inl less ↦ elim (cases_lt count (clear_front (drop (suc last) bits))) [
        | inl more ↦ absurd (ends (omega arith) (run_dropped (suc last) bits (suc count) (omega arith) (front_clear (drop (suc last) bits) (suc count) more)))
        | inr same ↦ min-eq_right (omega arith) ∙ (omega arith)
      ]
      | inr all ↦ min-eq_left all ∙ (elim (cases_lt count n) [
        | inl more ↦ absurd (ends more (run_dropped (suc last) bits (suc count) (omega arith) (front_clear (drop (suc last) bits) (suc count) (omega arith))))
        | inr same ↦ (omega arith)
      ])
    ])

-- ---- a run that was set

pub length-with_run : (first len : ℕ) (bits : List Bool) → length (with_run first len bits) ≡ length bits
unfolding with_run
length-with_run first len [] = refl
length-with_run zero zero (b ∷ bits) = refl
length-with_run zero (suc len) (b ∷ bits) = ap suc (length-with_run zero len bits)
length-with_run (suc first) len (b ∷ bits) = ap suc (length-with_run first len bits)

pub with_run-inside : (first len : ℕ) (bits : List Bool) (i : ℕ) → first ≤ i → i < first + len → i < length bits → bit (with_run first len bits) i ≡ true
unfolding with_run
with_run-inside first len [] i le lt short = absurd (omega arith)
with_run-inside zero zero (b ∷ bits) i le lt short = absurd (omega arith)
with_run-inside zero (suc len) (b ∷ bits) zero le lt short = refl
with_run-inside zero (suc len) (b ∷ bits) (suc i) le lt short = with_run-inside zero len bits i (omega arith) (omega arith) (omega arith)
with_run-inside (suc first) len (b ∷ bits) zero le lt short = absurd (omega arith)
with_run-inside (suc first) len (b ∷ bits) (suc i) le lt short = with_run-inside first len bits i (omega arith) (omega arith) (omega arith)

pub with_run-others : (first len : ℕ) (bits : List Bool) (i : ℕ) → (i < first) ⊎ (first + len ≤ i) → bit (with_run first len bits) i ≡ bit bits i
unfolding with_run
with_run-others first len [] i out = refl
with_run-others zero zero (b ∷ bits) i out = refl
with_run-others zero (suc len) (b ∷ bits) zero (inl below) = absurd (omega arith)
with_run-others zero (suc len) (b ∷ bits) zero (inr past) = absurd (omega arith)
with_run-others zero (suc len) (b ∷ bits) (suc i) (inl below) = absurd (omega arith)
with_run-others zero (suc len) (b ∷ bits) (suc i) (inr past) = with_run-others zero len bits i (inr (omega arith))
with_run-others (suc first) len (b ∷ bits) zero out = refl
with_run-others (suc first) len (b ∷ bits) (suc i) (inl below) = with_run-others first len bits i (inl (omega arith))
with_run-others (suc first) len (b ∷ bits) (suc i) (inr past) = with_run-others first len bits i (inr (omega arith))

-- bits that were put so are these
pub put_is : (old new : List Bool) (first len : ℕ) → PutsRun old new first len true → new ≡ with_run first len old
put_is old new first len puts =
    ext_get_or false new (with_run first len old) (puts.same_count ∙ sym (length-with_run first len old)) (λ i lt. elim (cases_lt i first) [
      | inl below ↦ puts.others i (inl below) ∙ sym (with_run-others first len old i (inl below))
      | inr from ↦ elim (cases_lt i (first + len)) [
        | inl inside ↦ puts.inside i from inside ∙ sym (with_run-inside first len old i from inside (let e = puts.same_count in omega (arith, e)))
        | inr past ↦ puts.others i (inr past) ∙ sym (with_run-others first len old i (inr past))
      ]
    ])
