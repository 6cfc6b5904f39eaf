-- Sectors that two runs share, of runs by rising first sector and in the order of a log.
use Rattle.std.proofs.Common.{◌≡◌, ℕ, ◌+◌, ◌-◌, ◌<◌, ◌≤◌, Bool, true, false, cond, List, [], ◌∷◌, length, get_or, drop, Some, All, refl, sym, ap, ◌∙◌, ⊎_elim, arith}
use Rattle.std.specs.Prelude.{if◌then◌else◌, nat_le, nat_lt, ◌&&◌, count_by}
use Rattle.std.specs.List.Sorted.{IsPermutation, IsNonDecreasingBy}
use Rattle.std.proofs.lemmas.Bool.{leb-true, ltb-true, ltb-false, le-leb, lt-leb, lt-ltb, le-ltb, and_from, and_parts, and_left, cases_lt, cases_Bool}
use Rattle.std.proofs.lemmas.List.{at_drop_more, at_drop_all}
use Rattle.std.proofs.lemmas.List.Elements.{All-nil, All-cons, All-head, All-tail}
use Rattle.std.proofs.lemmas.List.Sums.{sum_by-cons}
use Rattle.std.proofs.lemmas.List.Sorted.{IsNonDecreasingBy-drop, sum_by-IsPermutation, All-permutation}
use Rattle.log_page.specs.declared.places.Extent.{Extent}
use Rattle.log_reading.specs.LogPages.{sector_in}
use Rattle.log_reading.specs.Rows.{are_apart}
use Rattle.log_reading.proofs.Ahead.{passed, inside}
use Rattle.log_reading.proofs.FrontRuns.{AreFilled}
use Rattle.log_reading.proofs.PageRows.{same_sector, no_sector}

-- ---- the walk

pub apart_stops : (first sectors : ℕ) (runs : List Extent) (i : ℕ) (d : Extent) → i < length runs → nat_lt ((get_or runs i d).first - first) sectors ≡ true → are_apart first sectors (drop i runs) ≡ false
apart_stops first sectors runs i d lt is =
    at_drop_more (are_apart first sectors) runs i d lt ∙ ap (λ (b : Bool). if b then false else are_apart (get_or runs i d).first (get_or runs i d).sectors (drop (i + 1) runs)) is

pub apart_goes_on : (first sectors : ℕ) (runs : List Extent) (i : ℕ) (d : Extent) → i < length runs → nat_lt ((get_or runs i d).first - first) sectors ≡ false
    → are_apart first sectors (drop i runs) ≡ are_apart (get_or runs i d).first (get_or runs i d).sectors (drop (i + 1) runs)
apart_goes_on first sectors runs i d lt is =
    at_drop_more (are_apart first sectors) runs i d lt ∙ ap (λ (b : Bool). if b then false else are_apart (get_or runs i d).first (get_or runs i d).sectors (drop (i + 1) runs)) is

pub apart_ends : (first sectors : ℕ) (runs : List Extent) (i : ℕ) → length runs ≤ i → are_apart first sectors (drop i runs) ≡ true
apart_ends first sectors runs i past = at_drop_all (are_apart first sectors) runs i past

-- ---- how many runs have a sector

abbrev has : ℕ → Extent → Bool
has x run = nat_le run.first x && nat_lt x (run.first + run.sectors)

abbrev once : Bool → ℕ
once b = cond b 1 0

unfoldable pub times : List Extent → ℕ → ℕ
times runs x = count_by (has x) runs

has_it : (x : ℕ) (run : Extent) → run.first ≤ x → x < run.first + run.sectors → has x run ≡ true
has_it x run from to = and_from (nat_le run.first x) (nat_lt x (run.first + run.sectors)) (le-leb run.first x from) (lt-ltb x (run.first + run.sectors) to)

before : (x : ℕ) (run : Extent) → x < run.first → has x run ≡ false
before x run less = and_left (nat_le run.first x) (nat_lt x (run.first + run.sectors)) (lt-leb run.first x less)

is_inside : (x : ℕ) (run : Extent) → has x run ≡ true → (run.first ≤ x) × (x < run.first + run.sectors)
is_inside x run is = let parts = and_parts (nat_le run.first x) (nat_lt x (run.first + run.sectors)) is in (leb-true run.first x parts.0, ltb-true x (run.first + run.sectors) parts.1)

times-nil : (x : ℕ) → times [] x ≡ 0
unfolding times
times-nil x = refl

times-cons : (run : Extent) (runs : List Extent) (x : ℕ) → times (run ∷ runs) x ≡ once (has x run) + times runs x
unfolding times
times-cons run runs x = sum_by-cons (λ r. cond (has x r) 1 0) run runs

pub times-permutation : (runs sorted : List Extent) (x : ℕ) → IsPermutation runs sorted → times sorted x ≡ times runs x
unfolding times
times-permutation runs sorted x moved = sum_by-IsPermutation (λ r. cond (has x r) 1 0) runs sorted moved

-- ---- by rising first sector

abbrev pub HasSectors : Extent → Type 0
HasSectors run = 0 < run.sectors

-- runs that have sectors, by rising first sector, from this one on
abbrev pub Rise : ℕ → List Extent → Type 0
Rise low [] = Unit {0}
Rise low (run ∷ runs) = (low ≤ run.first) × ((0 < run.sectors) × Rise run.first runs)

rise_from : (low : ℕ) (runs : List Extent) → All HasSectors runs → IsNonDecreasingBy (λ (r : Extent). r.first) runs → ((d : Extent) → 0 < length runs → low ≤ (get_or runs 0 d).first) → Rise low runs
rise_from low [] some rising least = tt
rise_from low (run ∷ runs) some rising least =
    (least run (omega arith), (All-head HasSectors run runs some, rise_from run.first runs (All-tail HasSectors run runs some) (IsNonDecreasingBy-drop (λ (r : Extent). r.first) 1 (run ∷ runs) rising) (λ d more. rising 0 1 d (omega arith) (omega arith))))

all_have : (left : ℕ) (runs : List Extent) → AreFilled left runs → All HasSectors runs
all_have left [] filled = All-nil HasSectors
all_have left (run ∷ runs) filled = All-cons HasSectors run runs filled.0 (all_have (left - run.sectors) runs filled.1.1)

pub sorted_rise : (left : ℕ) (runs sorted : List Extent) → AreFilled left runs → IsPermutation runs sorted → IsNonDecreasingBy (λ (r : Extent). r.first) sorted → Rise 0 sorted
sorted_rise left runs sorted filled moved rising = rise_from 0 sorted (All-permutation HasSectors runs sorted moved (all_have left runs filled)) rising (λ d more. omega arith)

-- no run has a sector twice, and none has one before the end of a run before them
pub apart_once : (first sectors : ℕ) (runs : List Extent) → Rise first runs → are_apart first sectors runs ≡ true → (x : ℕ) → (times runs x ≤ 1) × (x < first + sectors → times runs x ≡ 0)
apart_once first sectors [] rise is x = (omega (arith, times-nil x), λ less. times-nil x)
apart_once first sectors (run ∷ runs) rise is x = by_test (apart_once run.first run.sectors runs rise.1.1) (nat_lt (run.first - first) sectors) refl is
  where
    by_test : (are_apart run.first run.sectors runs ≡ true → (y : ℕ) → (times runs y ≤ 1) × (y < run.first + run.sectors → times runs y ≡ 0)) → (b : Bool) → nat_lt (run.first - first) sectors ≡ b → (if b then false else are_apart run.first run.sectors runs) ≡ true → (times (run ∷ runs) x ≤ 1) × (x < first + sectors → times (run ∷ runs) x ≡ 0)
    by_test later true test e = absurd (clash e)
      where
        clash : false ≡ true → ⊥
        clash y = cc
    by_test later false test e =
        let gap : sectors ≤ run.first - first = ltb-false (run.first - first) sectors test in
        let from : first ≤ run.first = rise.0 in
        let rest = later e x in
        let sum = times-cons run runs x in (
          ⊎_elim (λ (h : has x run ≡ true). (let own = is_inside x run h in let none = rest.1 own.1 in omega (arith, sum, ap once h, none))) (λ (h : has x run ≡ false). omega (arith, sum, ap once h, rest.0)) (cases_Bool (has x run)),
          λ less. (let none = rest.1 (omega arith) in let out = before x run (omega arith) in omega (arith, sum, ap once out, none)),
        )

pub once_apart : (first sectors : ℕ) (runs : List Extent) → Rise first runs → ((x : ℕ) → first ≤ x → x < first + sectors → times runs x ≡ 0) → ((x : ℕ) → times runs x ≤ 1) → are_apart first sectors runs ≡ true
once_apart first sectors [] rise free single = refl
once_apart first sectors (run ∷ runs) rise free single =
    let from : first ≤ run.first = rise.0 in
    let some : 0 < run.sectors = rise.1.0 in
    let own = has_it run.first run (omega arith) (omega arith) in
    let gap : sectors ≤ run.first - first = ⊎_elim (λ (h : run.first - first < sectors). absurd (omega (arith, free run.first from (omega arith), times-cons run runs run.first, ap once own))) (λ (h : sectors ≤ run.first - first). h) (cases_lt (run.first - first) sectors) in
    ap (λ (b : Bool). if b then false else are_apart run.first run.sectors runs) (le-ltb (run.first - first) sectors gap)
    ∙ once_apart run.first run.sectors runs rise.1.1 (λ x low high. omega (arith, single x, times-cons run runs x, ap once (has_it x run low high))) (λ x. omega (arith, single x, times-cons run runs x))

-- ---- in the order of the log

pub held : (runs : List Extent) (n x : ℕ) → sector_in runs n ≡ Some x → 1 ≤ times runs x
held [] n x is = no_sector x is
held (run ∷ runs) n x is = ⊎_elim (λ (h : n < run.sectors). own h) (λ (h : run.sectors ≤ n). later h (held runs (n - run.sectors) x)) (cases_lt n run.sectors)
  where
    own : n < run.sectors → 1 ≤ times (run ∷ runs) x
    own h =
        let same : run.first + n ≡ x = same_sector (run.first + n) x (sym (inside run runs n h) ∙ is) in
        omega (arith, times-cons run runs x, ap once (has_it x run (omega arith) (omega arith)))

    later : run.sectors ≤ n → (sector_in runs (n - run.sectors) ≡ Some x → 1 ≤ times runs x) → 1 ≤ times (run ∷ runs) x
    later h behind =
        let rest = behind (sym (passed run runs n (n - run.sectors) (omega arith)) ∙ is) in
        omega (arith, times-cons run runs x)

pub held_twice : (runs : List Extent) (i j x : ℕ) → i < j → sector_in runs i ≡ Some x → sector_in runs j ≡ Some x → 2 ≤ times runs x
held_twice [] i j x lt is other = no_sector x is
held_twice (run ∷ runs) i j x lt is other = ⊎_elim (λ (h : i < run.sectors). own h) (λ (h : run.sectors ≤ i). later h (held_twice runs (i - run.sectors) (j - run.sectors) x)) (cases_lt i run.sectors)
  where
    behind : (k : ℕ) → run.sectors ≤ k → sector_in (run ∷ runs) k ≡ Some x → sector_in runs (k - run.sectors) ≡ Some x
    behind k le at = sym (passed run runs k (k - run.sectors) (omega arith)) ∙ at

    own : i < run.sectors → 2 ≤ times (run ∷ runs) x
    own h =
        let same : run.first + i ≡ x = same_sector (run.first + i) x (sym (inside run runs i h) ∙ is) in
        let mine = has_it x run (omega arith) (omega arith) in
        let far : run.sectors ≤ j = ⊎_elim (λ (k : j < run.sectors). (let equal : run.first + j ≡ x = same_sector (run.first + j) x (sym (inside run runs j k) ∙ other) in absurd (omega arith))) (λ (k : run.sectors ≤ j). k) (cases_lt j run.sectors) in
        omega (arith, times-cons run runs x, ap once mine, held runs (j - run.sectors) x (behind j far other))

    later : run.sectors ≤ i → (i - run.sectors < j - run.sectors → sector_in runs (i - run.sectors) ≡ Some x → sector_in runs (j - run.sectors) ≡ Some x → 2 ≤ times runs x) → 2 ≤ times (run ∷ runs) x
    later h twice =
        let rest = twice (omega arith) (behind i h is) (behind j (omega arith) other) in
        omega (arith, times-cons run runs x)

abbrev pub IsHeld : ℕ → List Extent → ℕ → Type 0
IsHeld left runs x = (n : ℕ) × ((n < left) × (sector_in runs n ≡ Some x))

abbrev pub IsHeldTwice : ℕ → List Extent → ℕ → Type 0
IsHeldTwice left runs x = (i : ℕ) × ((j : ℕ) × ((i < j) × ((j < left) × ((sector_in runs i ≡ Some x) × (sector_in runs j ≡ Some x)))))

-- the sector of the first run
own_place : (run : Extent) (runs : List Extent) (x : ℕ) → has x run ≡ true → (x - run.first < run.sectors) × (sector_in (run ∷ runs) (x - run.first) ≡ Some x)
own_place run runs x is =
    let in_run = is_inside x run is in
    let lt : x - run.first < run.sectors = omega (arith, in_run.0, in_run.1) in
    let same : run.first + (x - run.first) ≡ x = omega (arith, in_run.0) in
    (lt, inside run runs (x - run.first) lt ∙ ap Some same)

pub is_held : (left : ℕ) (runs : List Extent) (x : ℕ) → AreFilled left runs → 1 ≤ times runs x → IsHeld left runs x
is_held left [] x filled some = absurd (omega (arith, times-nil x))
is_held left (run ∷ runs) x filled some = ⊎_elim own (later (is_held (left - run.sectors) runs x filled.1.1)) (cases_Bool (has x run))
  where
    own : has x run ≡ true → IsHeld left (run ∷ runs) x
    own is = let place = own_place run runs x is in (x - run.first, (omega (arith, place.0, filled.1.0), place.1))

    later : (1 ≤ times runs x → IsHeld (left - run.sectors) runs x) → has x run ≡ false → IsHeld left (run ∷ runs) x
    later behind is =
        let rest = behind (omega (arith, times-cons run runs x, ap once is)) in
        (run.sectors + rest.0, (omega (arith, rest.1.0, filled.1.0), passed run runs (run.sectors + rest.0) rest.0 (omega arith) ∙ rest.1.1))

pub is_held_twice : (left : ℕ) (runs : List Extent) (x : ℕ) → AreFilled left runs → 2 ≤ times runs x → IsHeldTwice left runs x
is_held_twice left [] x filled some = absurd (omega (arith, times-nil x))
is_held_twice left (run ∷ runs) x filled some = ⊎_elim own (later (is_held_twice (left - run.sectors) runs x filled.1.1)) (cases_Bool (has x run))
  where
    own : has x run ≡ true → IsHeldTwice left (run ∷ runs) x
    own is =
        let place = own_place run runs x is in
        let rest = is_held (left - run.sectors) runs x filled.1.1 (omega (arith, times-cons run runs x, ap once is)) in
        (x - run.first, (run.sectors + rest.0, (omega (arith, place.0), (omega (arith, rest.1.0, filled.1.0), (place.1, passed run runs (run.sectors + rest.0) rest.0 (omega arith) ∙ rest.1.1)))))

    later : (2 ≤ times runs x → IsHeldTwice (left - run.sectors) runs x) → has x run ≡ false → IsHeldTwice left (run ∷ runs) x
    later behind is =
        let rest = behind (omega (arith, times-cons run runs x, ap once is)) in
        (run.sectors + rest.0, (run.sectors + rest.1.0, (omega (arith, rest.1.1.0), (omega (arith, rest.1.1.1.0, filled.1.0), (passed run runs (run.sectors + rest.0) rest.0 (omega arith) ∙ rest.1.1.1.1.0, passed run runs (run.sectors + rest.1.0) rest.1.0 (omega arith) ∙ rest.1.1.1.1.1)))))
