-- What is chosen is clear, once and as much as is wanted.
use Rattle.std.proofs.Common.{◌≡◌, ℕ, zero, suc, ◌+◌, ◌-◌, ◌<◌, ◌≤◌, Bool, true, false, not, List, [], ◌∷◌, refl, sym, ap, ◌∙◌, inl, inr, subst, arith}
use Rattle.std.specs.Prelude.{◌==◌, count_by, drop, min, Option, Some, None}
use Rattle.std.proofs.lemmas.Bool.{cases_lt}
use Rattle.std.proofs.lemmas.Bool.Decides.{nat_tests}
use Rattle.std.proofs.Math.Nat.{min-le_left, min-le_right, min-eq_left, min-eq_right}
use Rattle.record_model.specs.declared.runs.Run.{Run}
use Rattle.bit_set.specs.Bits.{IsClearRun}
use Rattle.space_model.specs.Choosing.{clear_front, longest_clear, lowest_fit, with_run, run_at, at_once, chosen_anywhere, behind, chosen}
use Rattle.space_model.specs.Laws.{AreFree, clusters_of, ChosenAreFree}
use Rattle.space_model.proofs.Fitting.{front_clear, run_dropped, fits, none_clear, counted_after}

is_none : (n : ℕ) → (n == 0) ≡ true → n ≡ 0
is_none n e = grind (arith, nat_tests)

pub is_some : (n : ℕ) → (n == 0) ≡ false → 0 < n
is_some n e = grind (arith, nat_tests)

pub at_once-few : (n : ℕ) (bits : List Bool) → at_once n bits ≤ n
unfolding at_once
at_once-few n bits = min-le_left n (longest_clear bits)

pub at_once-longest : (n : ℕ) (bits : List Bool) → at_once n bits ≤ longest_clear bits
unfolding at_once
at_once-longest n bits = min-le_right n (longest_clear bits)

at_once-none : (n : ℕ) (bits : List Bool) → at_once n bits ≡ 0 → n ≤ count_by not bits → n ≡ 0
unfolding at_once
at_once-none n bits none clear = by (longest_clear bits) refl none
  where
    by : (longest : ℕ) → longest_clear bits ≡ longest → min n longest ≡ 0 → n ≡ 0
    by zero is none = (let e : count_by not bits ≡ 0 = none_clear bits is in omega arith)
    by (suc longest) is none = elim (cases_lt n (suc longest)) [
      | inl below ↦ sym (min-eq_left {n = n} {m = suc longest} (omega arith)) ∙ none
      | inr past ↦ absurd (let e : min n (suc longest) ≡ suc longest = min-eq_right (omega arith) in omega (arith, none))
    ]

pub behind-few : (last n : ℕ) (bits : List Bool) → behind last n bits ≤ n
unfolding behind
behind-few last n bits = min-le_left n (clear_front (drop (suc last) bits))

behind-clear : (last n : ℕ) (bits : List Bool) → behind last n bits ≤ clear_front (drop (suc last) bits)
unfolding behind
behind-clear last n bits = min-le_right n (clear_front (drop (suc last) bits))

pub none_more : (most : ℕ) (bits : List Bool) (vcn n : ℕ) → (at_once n bits == 0) ≡ true → chosen_anywhere (suc most) bits vcn n ≡ []
unfolding chosen_anywhere
none_more most bits vcn n none = rw none refl

abbrev pub Then : ℕ → List Bool → ℕ → ℕ → ℕ → List Run
Then most bits vcn n m = run_at vcn (lowest_fit m bits) m ∷ chosen_anywhere most (with_run (lowest_fit m bits) m bits) (vcn + m) (n - m)

pub one_more : (most : ℕ) (bits : List Bool) (vcn n : ℕ) → (at_once n bits == 0) ≡ false → chosen_anywhere (suc most) bits vcn n ≡ Then most bits vcn n (at_once n bits)
unfolding chosen_anywhere
one_more most bits vcn n some = rw some refl

abbrev rest_of : ℕ → List Bool → ℕ → ℕ → List Run
rest_of most bits vcn n = chosen_anywhere most (with_run (lowest_fit (at_once n bits) bits) (at_once n bits) bits) (vcn + at_once n bits) (n - at_once n bits)

left_after : (n : ℕ) (bits : List Bool) → count_by not (with_run (lowest_fit (at_once n bits) bits) (at_once n bits) bits) + at_once n bits ≡ count_by not bits
left_after n bits = counted_after (lowest_fit (at_once n bits) bits) (at_once n bits) bits (fits bits (at_once n bits) (at_once-longest n bits))

count_step : (most : ℕ) (bits : List Bool) (vcn n : ℕ) → n ≤ suc most → n ≤ count_by not bits → (v : Bool) → (at_once n bits == 0) ≡ v
    → (n - at_once n bits ≤ most → n - at_once n bits ≤ count_by not (with_run (lowest_fit (at_once n bits) bits) (at_once n bits) bits) → clusters_of (rest_of most bits vcn n) ≡ n - at_once n bits)
    → clusters_of (chosen_anywhere (suc most) bits vcn n) ≡ n
count_step most bits vcn n few clear true none next = ap clusters_of (none_more most bits vcn n none) ∙ sym (at_once-none n bits (is_none (at_once n bits) none) clear)
count_step most bits vcn n few clear false some next =
    (let a : 0 < at_once n bits = is_some (at_once n bits) some in
    let b : at_once n bits ≤ n = at_once-few n bits in
    let c = left_after n bits in
    let d : clusters_of (rest_of most bits vcn n) ≡ n - at_once n bits = next (omega arith) (omega (arith, c)) in
    ap clusters_of (one_more most bits vcn n some) ∙ ap (λ (rest : ℕ). at_once n bits + rest) d ∙ (omega arith))

count_anywhere : (most : ℕ) (bits : List Bool) (vcn n : ℕ) → n ≤ most → n ≤ count_by not bits → clusters_of (chosen_anywhere most bits vcn n) ≡ n
unfolding chosen_anywhere
count_anywhere zero bits vcn n few clear = omega arith
count_anywhere (suc most) bits vcn n few clear =
    count_step most bits vcn n few clear (at_once n bits == 0) refl (count_anywhere most (with_run (lowest_fit (at_once n bits) bits) (at_once n bits) bits) (vcn + at_once n bits) (n - at_once n bits))

count_behind : (bits : List Bool) (last n : ℕ) (v : Bool) → (behind last n bits == 0) ≡ v → n ≤ count_by not bits → clusters_of (chosen bits (Some last) n) ≡ n
unfolding chosen
count_behind bits last n true none clear = rw none (count_anywhere n bits 0 n (omega arith) clear)
count_behind bits last n false some clear =
    rw some
    (let a : 0 < behind last n bits = is_some (behind last n bits) some in
    let b : behind last n bits ≤ n = behind-few last n bits in
    let run : IsClearRun bits (suc last) (behind last n bits) = run_dropped (suc last) bits (behind last n bits) a (front_clear (drop (suc last) bits) (behind last n bits) (behind-clear last n bits)) in
    let c : count_by not (with_run (suc last) (behind last n bits) bits) + behind last n bits ≡ count_by not bits = counted_after (suc last) (behind last n bits) bits run in
    let d : clusters_of (chosen_anywhere n (with_run (suc last) (behind last n bits) bits) (behind last n bits) (n - behind last n bits)) ≡ n - behind last n bits
    = count_anywhere n (with_run (suc last) (behind last n bits) bits) (behind last n bits) (n - behind last n bits) (omega arith) (omega arith) in
    ap (λ (rest : ℕ). behind last n bits + rest) d ∙ (omega arith))

count_chosen : (bits : List Bool) (last : Option ℕ) (n : ℕ) → n ≤ count_by not bits → clusters_of (chosen bits last n) ≡ n
unfolding chosen
count_chosen bits None n clear = count_anywhere n bits 0 n (omega arith) clear
count_chosen bits (Some last) n clear = count_behind bits last n (behind last n bits == 0) refl clear

free_first : (bits : List Bool) (vcn first m : ℕ) (runs : List Run) → 0 < m → IsClearRun bits first m → AreFree (with_run first m bits) (vcn + m) runs → AreFree bits vcn (run_at vcn first m ∷ runs)
free_first bits vcn first m runs some run rest = (first, record { vcn_is = refl; lcn = refl; some = some; clear = run }, rest)

free_step : (most : ℕ) (bits : List Bool) (vcn n : ℕ) (v : Bool) → (at_once n bits == 0) ≡ v
    → AreFree (with_run (lowest_fit (at_once n bits) bits) (at_once n bits) bits) (vcn + at_once n bits) (rest_of most bits vcn n) → AreFree bits vcn (chosen_anywhere (suc most) bits vcn n)
free_step most bits vcn n true none rest = subst (AreFree bits vcn) (sym (none_more most bits vcn n none)) tt
free_step most bits vcn n false some rest =
    subst (AreFree bits vcn) (sym (one_more most bits vcn n some))
    (free_first bits vcn (lowest_fit (at_once n bits) bits) (at_once n bits) (rest_of most bits vcn n) (is_some (at_once n bits) some) (fits bits (at_once n bits) (at_once-longest n bits)) rest)

free_anywhere : (most : ℕ) (bits : List Bool) (vcn n : ℕ) → AreFree bits vcn (chosen_anywhere most bits vcn n)
unfolding chosen_anywhere
free_anywhere zero bits vcn n = tt
free_anywhere (suc most) bits vcn n =
    free_step most bits vcn n (at_once n bits == 0) refl (free_anywhere most (with_run (lowest_fit (at_once n bits) bits) (at_once n bits) bits) (vcn + at_once n bits) (n - at_once n bits))

none_before : (n : ℕ) → n ≡ 0 + n
none_before n = omega arith

free_behind : (bits : List Bool) (last n : ℕ) (v : Bool) → (behind last n bits == 0) ≡ v → AreFree bits 0 (chosen bits (Some last) n)
unfolding chosen
free_behind bits last n true none = rw none (free_anywhere n bits 0 n)
free_behind bits last n false some =
    rw some
    (free_first bits 0 (suc last) (behind last n bits) (chosen_anywhere n (with_run (suc last) (behind last n bits) bits) (behind last n bits) (n - behind last n bits))
    (is_some (behind last n bits) some)
    (run_dropped (suc last) bits (behind last n bits) (is_some (behind last n bits) some) (front_clear (drop (suc last) bits) (behind last n bits) (behind-clear last n bits)))
    (subst (λ (vcn : ℕ). AreFree (with_run (suc last) (behind last n bits) bits) vcn (chosen_anywhere n (with_run (suc last) (behind last n bits) bits) (behind last n bits) (n - behind last n bits)))
    (none_before (behind last n bits)) (free_anywhere n (with_run (suc last) (behind last n bits) bits) (behind last n bits) (n - behind last n bits))))

free_chosen : (bits : List Bool) (last : Option ℕ) (n : ℕ) → AreFree bits 0 (chosen bits last n)
unfolding chosen
free_chosen bits None n = free_anywhere n bits 0 n
free_chosen bits (Some last) n = free_behind bits last n (behind last n bits == 0) refl

pub chosen_are_free : ChosenAreFree
chosen_are_free = record { count = count_chosen; free = free_chosen }
