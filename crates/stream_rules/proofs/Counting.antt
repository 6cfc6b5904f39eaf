-- How many places have a cluster.
use Rattle.std.proofs.Common.{◌≡◌, ℕ, ◌+◌, ◌<◌, ◌≤◌, Bool, true, false, cond, List, [], ◌∷◌, ◌++◌, refl, ap, ◌∙◌, arith}
use Rattle.std.specs.List.Sorted.{IsPermutation}
use Rattle.std.proofs.lemmas.Bool.{and_parts, and_from, and_left, and_right, leb-true, ltb-true, le-leb, lt-ltb, lt-leb, le-ltb}
use Rattle.std.proofs.lemmas.List.Elements.{All-head, All-tail}
use Rattle.std.proofs.lemmas.List.Sums.{sum_by-cons, sum_by_push}
use Rattle.std.proofs.lemmas.List.Sorted.{sum_by-IsPermutation}
use Rattle.stream_rules.specs.declared.places.Place.{Place}
use Rattle.stream_rules.specs.Places.{is_in, times, IsBelow, AreBelow}

-- ---- one place

pub inside : (x : ℕ) (p : Place) → p.first ≤ x → x < p.end → is_in x p ≡ true
inside x p from to = and_from _ _ (le-leb p.first x from) (lt-ltb x p.end to)

pub before : (x : ℕ) (p : Place) → x < p.first → is_in x p ≡ false
before x p less = and_left _ _ (lt-leb p.first x less)

pub behind : (x : ℕ) (p : Place) → p.end ≤ x → is_in x p ≡ false
behind x p le = and_right _ _ (le-ltb x p.end le)

pub is_inside : (x : ℕ) (p : Place) → is_in x p ≡ true → (p.first ≤ x) × (x < p.end)
is_inside x p is = let parts = and_parts _ _ is in (leb-true p.first x parts.0, ltb-true x p.end parts.1)

-- how often one place has a cluster
abbrev pub once : Bool → ℕ
once b = cond b 1 0

-- ---- places

pub times-nil : (x : ℕ) → times [] x ≡ 0
unfolding times
times-nil x = refl

pub times-cons : (p : Place) (places : List Place) (x : ℕ) → times (p ∷ places) x ≡ once (is_in x p) + times places x
unfolding times
times-cons p places x = sum_by-cons (λ q. cond (is_in x q) 1 0) p places

pub times_push : (places : List Place) (p : Place) (x : ℕ) → times (places ++ p ∷ []) x ≡ times places x + once (is_in x p)
unfolding times
times_push places p x = sum_by_push (λ q. cond (is_in x q) 1 0) places p

pub times-permutation : (places sorted : List Place) (x : ℕ) → IsPermutation places sorted → times sorted x ≡ times places x
unfolding times
times-permutation places sorted x moved = sum_by-IsPermutation (λ q. cond (is_in x q) 1 0) places sorted moved

-- no place has a cluster past all of them
pub times_past : (clusters : ℕ) (places : List Place) (x : ℕ) → AreBelow clusters places → clusters ≤ x → times places x ≡ 0
times_past clusters [] x below past = times-nil x
times_past clusters (p ∷ places) x below past =
    let head = All-head (IsBelow clusters) p places below in
    let out = behind x p (omega (arith, head.within)) in
    times-cons p places x ∙ ap (λ b. once b + times places x) out ∙ omega (arith, times_past clusters places x (All-tail (IsBelow clusters) p places below) past)
