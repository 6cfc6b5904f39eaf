-- Places by rising first cluster: the first that begins inside the one before it.
use Rattle.std.proofs.Common.{◌≡◌, ℕ, ◌+◌, ◌<◌, ◌≤◌, Bool, true, false, cond, nat_lt, List, [], ◌∷◌, length, get_or, drop, Option, Some, None, MatchOption, refl, sym, subst, ap, ◌∙◌, inl, inr, arith}
use Rattle.std.proofs.lemmas.Bool.{cases_lt, cases_Bool, ltb-true, ltb-false, lt-ltb}
use Rattle.std.proofs.lemmas.List.{at_drop_more, at_drop_all}
use Rattle.std.proofs.lemmas.List.Elements.{All-head, All-tail}
use Rattle.std.proofs.lemmas.List.Sorted.{IsNonDecreasingBy-drop}
use Rattle.stream_rules.specs.declared.places.Place.{Place}
use Rattle.stream_rules.specs.Places.{is_in, times, HaveSome, AreRising}
use Rattle.stream_rules.specs.Breaches.{IsLeastShared}
use Rattle.stream_rules.proofs.Counting.{once, inside, before, behind, times-nil, times-cons}

-- places that have clusters, by rising first cluster, from this one on
abbrev pub Rise : ℕ → List Place → Type 0
Rise low [] = Unit {0}
Rise low (p ∷ places) = (low ≤ p.first) × ((p.first < p.end) × Rise p.first places)

pub rise_from : (low : ℕ) (places : List Place) → HaveSome places → AreRising places → ((d : Place) → 0 < length places → low ≤ (get_or places 0 d).first) → Rise low places
rise_from low [] some rising least = tt
rise_from low (p ∷ places) some rising least =
    (least p (omega arith), (All-head (λ (q : Place). q.first < q.end) p places some, rise_from p.first places (All-tail (λ (q : Place). q.first < q.end) p places some) (IsNonDecreasingBy-drop (λ (q : Place). q.first) 1 (p ∷ places) rising) (λ d more. rising 0 1 d (omega arith) (omega arith))))

-- no place has a cluster before the first one
pub times_before : (low : ℕ) (places : List Place) (y : ℕ) → Rise low places → y < low → times places y ≡ 0
times_before low [] y rise less = times-nil y
times_before low (p ∷ places) y rise less =
    let out = before y p (omega (arith, rise.0)) in
    times-cons p places y ∙ ap (λ b. once b + times places y) out ∙ omega (arith, times_before p.first places y rise.1.1 (omega (arith, rise.0)))

-- the first place that begins before the end of the one before it
abbrev pub overlap_from : ℕ → List Place → Option ℕ
overlap_from end [] = None
overlap_from end (p ∷ places) = cond (nat_lt p.first end) (Some p.first) (overlap_from p.end places)

-- clusters of the places so far: each has at most one owner, those of the last place, from its first cluster on, have one,
-- and those behind it none
pub record IsApart (f : ℕ → ℕ) (last end : ℕ) : Type 0 where
  pub once : (y : ℕ) → f y ≤ 1
  pub last_owned : (y : ℕ) → last ≤ y → y < end → f y ≡ 1
  pub free : (y : ℕ) → end ≤ y → f y ≡ 0

-- one place more, behind the others
with_one : (f : ℕ → ℕ) (last end : ℕ) (p : Place) → IsApart f last end → p.first < p.end → end ≤ p.first → IsApart (λ y. f y + once (is_in y p)) p.first p.end
with_one f last end p apart some le = record {
  once = λ y. elim (cases_lt y p.first) [
    | inl less ↦ (let out = before y p less in omega (arith, apart.once y, ap once out))
    | inr from ↦ (let none = apart.free y (omega arith) in elim (cases_Bool (is_in y p)) [
      | inl is ↦ omega (arith, none, ap once is)
      | inr is ↦ omega (arith, none, ap once is)
    ])
  ];
  last_owned = λ y from to. omega (arith, apart.free y (omega arith), ap once (inside y p from to));
  free = λ y past. omega (arith, apart.free y (omega arith), ap once (behind y p past));
}

-- what is found is the least cluster that two have, and none where no two have one
abbrev pub IsAnswer : (ℕ → ℕ) → Option ℕ → Type 0
IsAnswer f found = MatchOption found ((y : ℕ) → f y ≤ 1) (λ x. (1 < f x) × ((y : ℕ) → y < x → f y ≤ 1))

answer_along : (f g : ℕ → ℕ) (found : Option ℕ) → ((y : ℕ) → f y ≡ g y) → IsAnswer f found → IsAnswer g found
answer_along f g None same answer = λ y. omega (arith, same y, answer y)
answer_along f g (Some x) same answer = (omega (arith, same x, answer.0), λ y less. omega (arith, same y, answer.1 y less))

step_shared : (f : ℕ → ℕ) (last end : ℕ) (p : Place) (places : List Place) (b : Bool) → nat_lt p.first end ≡ b → IsApart f last end → Rise last (p ∷ places) → (end ≤ p.first → IsAnswer (λ y. (f y + once (is_in y p)) + times places y) (overlap_from p.end places)) → IsAnswer (λ y. f y + times (p ∷ places) y) (cond b (Some p.first) (overlap_from p.end places))
step_shared f last end p places true is apart rise later =
    let inner = ltb-true p.first end is in
    let here = inside p.first p (omega arith) rise.1.0 in
    let two : 1 < f p.first + times (p ∷ places) p.first = omega (arith, apart.last_owned p.first rise.0 inner, times-cons p places p.first, ap once here) in
    (two, λ y less. omega (arith, apart.once y, times_before p.first (p ∷ places) y (omega arith, rise.1) less))
step_shared f last end p places false is apart rise later =
    answer_along (λ y. (f y + once (is_in y p)) + times places y) (λ y. f y + times (p ∷ places) y) (overlap_from p.end places) (λ y. omega (arith, times-cons p places y)) (later (ltb-false p.first end is))

pub shared_is : (f : ℕ → ℕ) (last end : ℕ) (places : List Place) → IsApart f last end → Rise last places → IsAnswer (λ y. f y + times places y) (overlap_from end places)
shared_is f last end [] apart rise = λ y. omega (arith, apart.once y, times-nil y)
shared_is f last end (p ∷ places) apart rise =
    step_shared f last end p places (nat_lt p.first end) refl apart rise (λ le. shared_is (λ y. f y + once (is_in y p)) p.first p.end places (with_one f last end p apart rise.1.0 le) rise.1.1)

none_apart : IsApart (λ y. 0) 0 0
none_apart = record { once = λ y. omega arith; last_owned = λ y from to. absurd (omega arith); free = λ y past. refl }

in_words : (places : List Place) (found : Option ℕ) → IsAnswer (times places) found → MatchOption found ((x : ℕ) → times places x ≤ 1) (IsLeastShared places)
in_words places None answer = answer
in_words places (Some x) answer = record { shared = answer.0; least = answer.1 }

-- what is found from the first place on
pub found_shared : (places : List Place) (found : Option ℕ) → found ≡ overlap_from 0 places → HaveSome places → AreRising places → MatchOption found ((x : ℕ) → times places x ≤ 1) (IsLeastShared places)
found_shared places found is some rising =
    let rise = rise_from 0 places some rising (λ d more. omega arith) in
    let answer : IsAnswer (times places) (overlap_from 0 places) = answer_along (λ y. 0 + times places y) (times places) (overlap_from 0 places) (λ y. omega arith) (shared_is (λ y. 0) 0 0 places none_apart rise) in
    in_words places found (subst (IsAnswer (times places)) (sym is) answer)

-- a place that begins before the end of the one before it
pub overlap_here : (end : ℕ) (places : List Place) (i : ℕ) (d : Place) → i < length places → (get_or places i d).first < end → overlap_from end (drop i places) ≡ Some (get_or places i d).first
overlap_here end places i d lt inner =
    at_drop_more (overlap_from end) places i d lt
    ∙ ap (λ b. cond b (Some (get_or places i d).first) (overlap_from (get_or places i d).end (drop (i + 1) places))) (lt-ltb (get_or places i d).first end inner)

pub overlap_none : (end : ℕ) (places : List Place) (i : ℕ) → length places ≤ i → overlap_from end (drop i places) ≡ None
overlap_none end places i past = at_drop_all (overlap_from end) places i past
