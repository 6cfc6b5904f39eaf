-- Places by rising first cluster: the least clear bit in one of them.
use Rattle.std.proofs.Common.{◌≡◌, ℕ, ◌+◌, ◌-◌, ◌<◌, ◌≤◌, Bool, true, false, not, cond, nat_lt, find, unwrap_or, List, [], ◌∷◌, length, get_or, drop, Option, Some, None, MatchOption, refl, sym, subst, ap, ◌∙◌, inl, inr, ◌⊎◌, arith}
use Rattle.std.specs.List.{range_with_len}
use Rattle.std.proofs.lemmas.Bool.{cases_lt, cases_Bool, ltb-true, ltb-false, lt-ltb}
use Rattle.std.proofs.lemmas.List.{at_drop_more, at_drop_all}
use Rattle.std.proofs.lemmas.List.Elements.{All-head, All-tail, All-weaker}
use Rattle.bit_set.specs.Bits.{bit, IsLowestClear}
use Rattle.stream_rules.specs.declared.places.Place.{Place}
use Rattle.stream_rules.specs.Places.{is_in, times, IsBelow, AreBelow, HaveSome, AreRising}
use Rattle.stream_rules.specs.Breaches.{IsLeastUnmarked, next_clear, clear_from}
use Rattle.stream_rules.proofs.Failing.{none_fails, least_fails, FindsLeast, finds_least}
use Rattle.stream_rules.proofs.Counting.{once, inside, is_inside, times-nil, times-cons}
use Rattle.stream_rules.proofs.Overlaps.{Rise, rise_from, times_before}

-- ---- the next clear bit

pub next_is : (bits : List Bool) (from at : ℕ) → IsLowestClear bits from at → at ≡ next_clear bits from
unfolding next_clear
next_is bits from at lowest = sym (ap (λ o. unwrap_or o (length bits)) (least_fails (bit bits) from (length bits - from) at lowest.behind (omega (arith, lowest.inside, lowest.behind)) lowest.clear (λ y le less. lowest.lowest y le less)))

pub next_none : (bits : List Bool) (from : ℕ) → ((i : ℕ) → from ≤ i → i < length bits → bit bits i ≡ true) → length bits ≡ next_clear bits from
unfolding next_clear
next_none bits from all = sym (ap (λ o. unwrap_or o (length bits)) (none_fails (bit bits) from (length bits - from) (λ y le lt. all y le (omega arith))))

-- no bit is clear from this one on, below the clear one, which there may not be
pub record IsClearFrom (bits : List Bool) (from clear : ℕ) : Type 0 where
  pub set : (y : ℕ) → from ≤ y → y < clear → bit bits y ≡ true
  pub stops : clear < length bits → bit bits clear ≡ false
  pub order : clear < length bits → from ≤ clear

by_found : (bits : List Bool) (from end : ℕ) (found : Option ℕ) → end ≡ from + (length bits - from) → FindsLeast (bit bits) from end found → IsClearFrom bits from (unwrap_or found (length bits))
by_found bits from end None is all = record { set = λ y le lt. all y le (omega arith); stops = λ lt. absurd (omega arith); order = λ lt. absurd (omega arith) }
by_found bits from end (Some x) is least = record { set = λ y le lt. least.before y le lt; stops = λ lt. least.fails; order = λ lt. least.from }

pub next_clear_is : (bits : List Bool) (from : ℕ) → IsClearFrom bits from (next_clear bits from)
unfolding next_clear
next_clear_is bits from =
    let end = from + (length bits - from) in
    by_found bits from end (find (λ i. not (bit bits i)) (range_with_len from (length bits - from))) refl (finds_least (bit bits) from (length bits - from) end refl)

-- one that was sought from an earlier bit on
clear_later : (bits : List Bool) (low clear first : ℕ) (b : Bool) → nat_lt clear first ≡ b → low ≤ first → IsClearFrom bits low clear → IsClearFrom bits first (cond b (next_clear bits first) clear)
clear_later bits low clear first true is le found = next_clear_is bits first
clear_later bits low clear first false is le found =
    let behind = ltb-false clear first is in
    record { set = λ y from lt. found.set y (omega arith) lt; stops = found.stops; order = λ lt. behind }

pub clear_from_is : (bits : List Bool) (low clear first : ℕ) → low ≤ first → IsClearFrom bits low clear → IsClearFrom bits first (clear_from bits clear first)
clear_from_is bits low clear first le found = clear_later bits low clear first (nat_lt clear first) refl le found

-- ---- places

-- what is found from a clear bit on
abbrev pub unmarked_from : List Bool → ℕ → List Place → Option ℕ
unmarked_from bits clear [] = None
unmarked_from bits clear (p ∷ places) = cond (nat_lt (clear_from bits clear p.first) p.end) (Some (clear_from bits clear p.first)) (unmarked_from bits (clear_from bits clear p.first) places)

abbrev pub IsUnmarked : List Bool → List Place → Option ℕ → Type 0
IsUnmarked bits places found = MatchOption found ((x : ℕ) → 0 < times places x → bit bits x ≡ true) (IsLeastUnmarked bits places)

-- a cluster of the first place, or of another
owner_of : (p : Place) (places : List Place) (y : ℕ) → 0 < times (p ∷ places) y → ((p.first ≤ y) × (y < p.end)) ⊎ (0 < times places y)
owner_of p places y owned =
    elim (cases_Bool (is_in y p)) [
      | inl is ↦ inl (is_inside y p is)
      | inr is ↦ inr (omega (arith, owned, times-cons p places y, ap once is))
    ]

-- clusters of the first place, which ends before the clear bit, are marked, and so are those of others
marked : (bits : List Bool) (p : Place) (places : List Place) (clear y : ℕ) → IsClearFrom bits p.first clear → p.end ≤ clear → 0 < times (p ∷ places) y → (0 < times places y → bit bits y ≡ true) → bit bits y ≡ true
marked bits p places clear y found past owned others =
    elim (owner_of p places y owned) [
      | inl here ↦ found.set y here.0 (omega (arith, here.1))
      | inr there ↦ others there
    ]

more_owned : (p : Place) (places : List Place) (x : ℕ) → 0 < times places x → 0 < times (p ∷ places) x
more_owned p places x owned = omega (arith, times-cons p places x)

passed : (bits : List Bool) (p : Place) (places : List Place) (clear : ℕ) (rest : Option ℕ) → IsClearFrom bits p.first clear → p.end ≤ clear → IsUnmarked bits places rest → IsUnmarked bits (p ∷ places) rest
passed bits p places clear None found past later = λ y owned. marked bits p places clear y found past owned (later y)
passed bits p places clear (Some x) found past later = record {
  owned = more_owned p places x later.owned;
  clear = later.clear;
  least = λ y less owned. marked bits p places clear y found past owned (later.least y less);
}

not_before : (low : ℕ) (places : List Place) (y : ℕ) → Rise low places → 0 < times places y → low ≤ y
not_before low places y rise owned =
    elim (cases_lt y low) [
      | inl less ↦ absurd (omega (arith, times_before low places y rise less))
      | inr from ↦ from
    ]

met : (bits : List Bool) (p : Place) (places : List Place) (clear : ℕ) → IsClearFrom bits p.first clear → clear < p.end → p.end ≤ length bits → Rise p.first (p ∷ places) → IsLeastUnmarked bits (p ∷ places) clear
met bits p places clear found inner within rise =
    let there : clear < length bits = omega arith in
    record {
      owned = omega (arith, times-cons p places clear, ap once (inside clear p (found.order there) inner));
      clear = found.stops there;
      least = λ y less owned. found.set y (not_before p.first (p ∷ places) y rise owned) less;
    }

step_unmarked : (bits : List Bool) (p : Place) (places : List Place) (clear : ℕ) (b : Bool) (rest : Option ℕ) → nat_lt clear p.end ≡ b → IsClearFrom bits p.first clear → p.end ≤ length bits → Rise p.first (p ∷ places) → IsUnmarked bits places rest → IsUnmarked bits (p ∷ places) (cond b (Some clear) rest)
step_unmarked bits p places clear true rest is found within rise later = met bits p places clear found (ltb-true clear p.end is) within rise
step_unmarked bits p places clear false rest is found within rise later = passed bits p places clear rest found (ltb-false clear p.end is) later

pub unmarked_is : (bits : List Bool) (low clear : ℕ) (places : List Place) → IsClearFrom bits low clear → Rise low places → AreBelow (length bits) places → IsUnmarked bits places (unmarked_from bits clear places)
unmarked_is bits low clear [] found rise below = λ y owned. absurd (omega (arith, times-nil y))
unmarked_is bits low clear (p ∷ places) found rise below =
    let next = clear_from bits clear p.first in
    let found_here = clear_from_is bits low clear p.first rise.0 found in
    let head = All-head (IsBelow (length bits)) p places below in
    let own_rise : p.first ≤ p.first = omega arith in
    step_unmarked bits p places next (nat_lt next p.end) (unmarked_from bits next places) refl found_here head.within (own_rise, rise.1) (unmarked_is bits p.first next places found_here rise.1.1 (All-tail (IsBelow (length bits)) p places below))

-- what is found from the first place on
pub found_unmarked : (bits : List Bool) (places : List Place) (found : Option ℕ) → found ≡ unmarked_from bits (next_clear bits 0) places → AreBelow (length bits) places → AreRising places → IsUnmarked bits places found
found_unmarked bits places found is below rising =
    let some : HaveSome places = All-weaker (IsBelow (length bits)) (λ (p : Place). p.first < p.end) (λ p one. one.some) places below in
    let rise = rise_from 0 places some rising (λ d more. omega arith) in
    subst (IsUnmarked bits places) (sym is) (unmarked_is bits 0 (next_clear bits 0) places (next_clear_is bits 0) rise below)

-- a place with a clear bit
pub unmarked_here : (bits : List Bool) (clear next : ℕ) (places : List Place) (i : ℕ) (d : Place) → i < length places → next ≡ clear_from bits clear (get_or places i d).first → next < (get_or places i d).end → unmarked_from bits clear (drop i places) ≡ Some next
unmarked_here bits clear next places i d lt is inner =
    let p = get_or places i d in
    at_drop_more (unmarked_from bits clear) places i d lt
    ∙ ap (λ n. cond (nat_lt n p.end) (Some n) (unmarked_from bits n (drop (i + 1) places))) (sym is)
    ∙ ap (λ b. cond b (Some next) (unmarked_from bits next (drop (i + 1) places))) (lt-ltb next p.end inner)

-- no place is left
pub unmarked_none : (bits : List Bool) (clear : ℕ) (places : List Place) (i : ℕ) → length places ≤ i → unmarked_from bits clear (drop i places) ≡ None
unmarked_none bits clear places i past = at_drop_all (unmarked_from bits clear) places i past
