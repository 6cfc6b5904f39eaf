-- Stretches of sectors: which sectors they have, how far they reach, and how a block is tried against them.
use Rattle.std.proofs.Common.{◌≡◌, ℕ, zero, suc, ◌+◌, ◌-◌, ◌*◌, ◌^◌, ◌<◌, ◌≤◌, max, min, Bool, true, false, ◌||◌, ◌&&◌, List, [], ◌∷◌, ◌++◌, length, get_or, refl, sym, ap, ◌∙◌, subst, ⊎_elim, ◌⊎◌, inl, inr, Option, Some, None, arith}
use Rattle.std.specs.Prelude.{if◌then◌else◌, nat_le, nat_lt, map}
use Rattle.std.specs.List.{list_any, range_with_len}
use Rattle.std.specs.List.Sorted.{IsPermutation, IsNonDecreasingBy}
use Rattle.std.proofs.lemmas.Bool.{and_from, and_parts, and_left, ltb-true, lt-ltb, le-leb, lt-leb, leb-true, leb-false, cases_lt}
use Rattle.std.proofs.lemmas.Bool.Decides.{nat_tests}
use Rattle.std.proofs.lemmas.List.Folds.{list_any-append, list_any_none, list_any_at, Any-from_list_any}
use Rattle.std.proofs.lemmas.List.FromFn.{length-range_with_len, get_or-range_with_len}
use Rattle.std.proofs.lemmas.List.Sorted.{IsNonDecreasingBy-drop, IsNonDecreasingBy-from_all_adjacent, list_any-IsPermutation}
use Rattle.log_reading.specs.disk_model.declared.block.Block.{Block}
use Rattle.log_reading.specs.disk_model.declared.block.BlockKind.{BlockKind}
use Rattle.log_reading.specs.disk_model.declared.block.BlockKind.TheVariants.{Plain, FileRec, Index}
use Rattle.log_reading.specs.disk_model.Sectors.{sectors, overlap}
use Rattle.log_reading.specs.log_page.declared.places.Extent.{Extent}
use Rattle.log_reading.specs.log_page.declared.places.LogPlace.{LogPlace}
use Rattle.log_reading.specs.LogPages.{sector_in, sector_below, log_sector}
use Rattle.log_reading.proofs.Ahead.{passed, inside}
use Rattle.log_recovery.specs.declared.own.Stretch.{Stretch}
use Rattle.log_recovery.specs.Own.{is_in_block, is_in_log, is_own, stretch_of, stretches_in, stretch_at, counted, with_reach, meets, AreSorted, StandFor}

-- ---- the sectors of a log

some_sectors : (kind : BlockKind) → 0 < sectors kind
some_sectors Plain = omega arith
some_sectors FileRec = omega arith
some_sectors Index = omega arith

-- the block has the sector, which lies on the device
abbrev hits : Block → ℕ → Option ℕ → Bool
hits b device o = is_in_block b (sector_below device o)

or_left : (s t : Bool) → s ≡ true → (s || t) ≡ true
or_left true t e = refl
or_left false t e = clash (sym e)
  where
    clash : {X : Type 0} → true ≡ false → X
    clash x = absurd cc

or_right : (s t : Bool) → t ≡ true → (s || t) ≡ true
or_right true t e = refl
or_right false t e = e

either : (s t : Bool) → (s || t) ≡ true → (s ≡ true) ⊎ (t ≡ true)
either true t e = inl refl
either false t e = inr e

meets_here : (b : Block) (device first count n : ℕ) → n < count → hits b device (Some (first + n)) ≡ true → list_any (meets b) (stretch_of device first count) ≡ true
meets_here b device first count n lt is = by_below (nat_lt (first + n) device) refl is
  where
    by_below : (t : Bool) → nat_lt (first + n) device ≡ t → is_in_block b (if t then Some (first + n) else None) ≡ true → list_any (meets b) (stretch_of device first count) ≡ true
    by_below false e h = absurd cc
    by_below true e h =
        let below = ltb-true (first + n) device e in
        let parts = and_parts (nat_le b.first (first + n)) (nat_lt (first + n) (b.first + sectors b.kind)) h in
        let from = leb-true b.first (first + n) parts.0 in
        let to = ltb-true (first + n) (b.first + sectors b.kind) parts.1 in
        ap (λ (t : Bool). list_any (meets b) (if t then record { first = first; reach = min (first + count) device - 1 } ∷ [] else [])) (lt-ltb first (min (first + count) device) (omega (arith, below)))
        ∙ or_left (nat_lt (first - b.first) (sectors b.kind) && nat_le b.first (min (first + count) device - 1)) false
        (and_from (nat_lt (first - b.first) (sectors b.kind)) (nat_le b.first (min (first + count) device - 1)) (lt-ltb (first - b.first) (sectors b.kind) (omega (arith, to, some_sectors b.kind))) (le-leb b.first (min (first + count) device - 1) (omega (arith, below, from))))

-- some sector of these runs, below so many
abbrev HasHit : Block → ℕ → ℕ → List Extent → Type 0
HasHit b device left runs = (n : ℕ) × ((n < left) × (hits b device (sector_in runs n) ≡ true))

hit_here : (b : Block) (device first count : ℕ) → list_any (meets b) (stretch_of device first count) ≡ true → (n : ℕ) × ((n < count) × (hits b device (Some (first + n)) ≡ true))
hit_here b device first count is = by_some (nat_lt first (min (first + count) device)) refl is
  where
    by_some : (t : Bool) → nat_lt first (min (first + count) device) ≡ t → list_any (meets b) (if t then record { first = first; reach = min (first + count) device - 1 } ∷ [] else []) ≡ true
        → (n : ℕ) × ((n < count) × (hits b device (Some (first + n)) ≡ true))
    by_some false e h = absurd cc
    by_some true e h =
        let some = ltb-true first (min (first + count) device) e in
        let met = ⊎_elim (λ (x : (nat_lt (first - b.first) (sectors b.kind) && nat_le b.first (min (first + count) device - 1)) ≡ true). x) (λ (x : false ≡ true). absurd cc) (either (nat_lt (first - b.first) (sectors b.kind) && nat_le b.first (min (first + count) device - 1)) false h) in
        let parts = and_parts (nat_lt (first - b.first) (sectors b.kind)) (nat_le b.first (min (first + count) device - 1)) met in
        let before = ltb-true (first - b.first) (sectors b.kind) parts.0 in
        let reach = leb-true b.first (min (first + count) device - 1) parts.1 in
        let at : first + (max b.first first - first) ≡ max b.first first = omega arith in
        let inside : is_in_block b (Some (max b.first first)) ≡ true =
        and_from (nat_le b.first (max b.first first)) (nat_lt (max b.first first) (b.first + sectors b.kind)) (le-leb b.first (max b.first first) (omega arith)) (lt-ltb (max b.first first) (b.first + sectors b.kind) (omega (arith, before, some_sectors b.kind))) in (
          max b.first first - first,
          (
            omega (arith, some, reach),
            ap (λ (s : ℕ). hits b device (Some s)) at
                ∙ ap (λ (t : Bool). is_in_block b (if t then Some (max b.first first) else None)) (lt-ltb (max b.first first) device (omega (arith, some, reach)))
                ∙ inside,
          ),
        )

met_by : (b : Block) (device left : ℕ) (runs : List Extent) (n : ℕ) → n < left → hits b device (sector_in runs n) ≡ true → list_any (meets b) (stretches_in device left runs) ≡ true
met_by b device left [] n lt is = absurd cc
met_by b device left (run ∷ runs) n lt is =
    let count = min run.sectors left in
    list_any-append (meets b) (stretch_of device run.first count) (stretches_in device (left - count) runs)
    ∙ ⊎_elim
    (λ (h : n < run.sectors). or_left (list_any (meets b) (stretch_of device run.first count)) (list_any (meets b) (stretches_in device (left - count) runs))
    (meets_here b device run.first count n (omega arith) (ap (hits b device) (sym (inside run runs n h)) ∙ is)))
    (λ (h : run.sectors ≤ n). or_right (list_any (meets b) (stretch_of device run.first count)) (list_any (meets b) (stretches_in device (left - count) runs))
    (met_by b device (left - count) runs (n - run.sectors) (omega arith) (ap (hits b device) (sym (passed run runs n (n - run.sectors) (omega arith))) ∙ is)))
    (cases_lt n run.sectors)

hit_by : (b : Block) (device left : ℕ) (runs : List Extent) → list_any (meets b) (stretches_in device left runs) ≡ true → HasHit b device left runs
hit_by b device left [] is = absurd cc
hit_by b device left (run ∷ runs) is =
    let count = min run.sectors left in
    ⊎_elim
    (λ (h : list_any (meets b) (stretch_of device run.first count) ≡ true).
    (let here = hit_here b device run.first count h in
    (here.0, (omega (arith, here.1.0), ap (hits b device) (inside run runs here.0 (omega (arith, here.1.0))) ∙ here.1.1))))
    (λ (h : list_any (meets b) (stretches_in device (left - count) runs) ≡ true).
    (let rest = hit_by b device (left - count) runs h in
    (run.sectors + rest.0, (omega (arith, rest.1.0), ap (hits b device) (passed run runs (run.sectors + rest.0) rest.0 refl) ∙ rest.1.1))))
    (either (list_any (meets b) (stretch_of device run.first count)) (list_any (meets b) (stretches_in device (left - count) runs)) (sym (list_any-append (meets b) (stretch_of device run.first count) (stretches_in device (left - count) runs)) ∙ is))

both_ways : (s t : Bool) → (s ≡ true → t ≡ true) → (t ≡ true → s ≡ true) → s ≡ t
both_ways true t f g = sym (f refl)
both_ways false true f g = g refl
both_ways false false f g = refl

log_met : (place : LogPlace) (b : Block) → list_any (meets b) (stretches_in place.device (counted place) place.runs) ≡ is_in_log place b
log_met place b = both_ways (list_any (meets b) (stretches_in place.device (counted place) place.runs)) (is_in_log place b) there back
  where
    all : List ℕ
    all = range_with_len 0 (8 * place.pages)

    test : ℕ → Bool
    test n = is_in_block b (log_sector place n)

    from_none : (n : ℕ) → 0 + n ≡ n
    from_none n = omega arith

    there : list_any (meets b) (stretches_in place.device (counted place) place.runs) ≡ true → list_any test all ≡ true
    there is =
        let hit = hit_by b place.device (counted place) place.runs is in
        let few : hit.0 < 8 * place.pages = omega (arith, hit.1.0) in
        let ready : 512 * hit.0 < place.initialised = omega (arith, hit.1.0) in
        list_any_at test all hit.0 0 (omega (arith, few, length-range_with_len 0 (8 * place.pages)))
        (ap test (get_or-range_with_len 0 (8 * place.pages) hit.0 0 few ∙ from_none hit.0)
        ∙ ap (λ (t : Bool). is_in_block b (if t then sector_below place.device (sector_in place.runs hit.0) else None)) (lt-ltb (512 * hit.0) place.initialised ready) ∙ hit.1.1)

    one : (n : ℕ) → n < 8 * place.pages → (t : Bool) → nat_lt (512 * n) place.initialised ≡ t → is_in_block b (if t then sector_below place.device (sector_in place.runs n) else None) ≡ true → list_any (meets b) (stretches_in place.device (counted place) place.runs) ≡ true
    one n few false e h = absurd cc
    one n few true e h = met_by b place.device (counted place) place.runs n (omega (arith, few, ltb-true (512 * n) place.initialised e)) h

    back : list_any test all ≡ true → list_any (meets b) (stretches_in place.device (counted place) place.runs) ≡ true
    back is =
        let some = Any-from_list_any test all is in
        let few : some.0 < 8 * place.pages = omega (arith, some.2, length-range_with_len 0 (8 * place.pages)) in
        one some.0 few (nat_lt (512 * some.0) place.initialised) refl (ap test (sym (from_none some.0) ∙ sym (get_or-range_with_len 0 (8 * place.pages) some.0 some.1 few) ∙ some.3) ∙ some.4)

-- ---- blocks

meets_block : (at n first count : ℕ) → 0 < n → 0 < count → at < 2 ^ 64 → (nat_lt (first - at) n && nat_le at (min (first + (count - 1)) (2 ^ 64 - 1))) ≡ (nat_lt at (first + count) && nat_lt first (at + n))
meets_block at n first count some has wide = grind (arith, nat_tests)

blocks_met : (b : Block) (kept : List Block) → b.first < 2 ^ 64 → list_any (meets b) (map stretch_at kept) ≡ list_any (overlap b) kept
blocks_met b [] wide = refl
blocks_met b (k ∷ kept) wide =
    ap (λ (t : Bool). t || list_any (meets b) (map stretch_at kept)) (meets_block b.first (sectors b.kind) k.first (sectors k.kind) (some_sectors b.kind) (some_sectors k.kind) wide)
    ∙ ap (λ (t : Bool). overlap b k || t) (blocks_met b kept wide)

-- ---- how far they reach

-- they begin further and further, from here on
abbrev pub Rise : ℕ → List Stretch → Type 0
Rise low [] = Unit {0}
Rise low (s ∷ stretches) = (low ≤ s.first) × Rise s.first stretches

rise_from : (low : ℕ) (stretches : List Stretch) → IsNonDecreasingBy (λ (s : Stretch). s.first) stretches → ((d : Stretch) → 0 < length stretches → low ≤ (get_or stretches 0 d).first) → Rise low stretches
rise_from low [] rising least = tt
rise_from low (s ∷ stretches) rising least =
    (least s (omega arith), rise_from s.first stretches (IsNonDecreasingBy-drop (λ (x : Stretch). x.first) 1 (s ∷ stretches) rising) (λ d more. rising 0 1 d (omega arith) (omega arith)))

le_max : (at most reach : ℕ) → nat_le at (max most reach) ≡ (nat_le at most || nat_le at reach)
le_max at most reach = grind (arith, nat_tests)

earlier_too : (at n low first : ℕ) → low ≤ first → nat_lt (first - at) n ≡ true → nat_lt (low - at) n ≡ true
earlier_too at n low first le is = lt-ltb (low - at) n (omega (arith, ltb-true (first - at) n is))

table : (e fm sf fl y : Bool) → (sf ≡ true → e ≡ true) → ((e && fm) || ((sf && (fm || fl)) || y)) ≡ ((e && fm) || ((sf && fl) || y))
table true true sf fl y h = refl
table true false sf fl y h = refl
table false fm false fl y h = refl
table false fm true fl y h = absurd (clash (h refl))
  where
    clash : false ≡ true → ⊥
    clash x = cc

-- behind a stretch that begins no later and reaches so far
any_reach : (b : Block) (low most : ℕ) (stretches : List Stretch) → Rise low stretches
    → ((nat_lt (low - b.first) (sectors b.kind) && nat_le b.first most) || list_any (meets b) (with_reach most stretches)) ≡ ((nat_lt (low - b.first) (sectors b.kind) && nat_le b.first most) || list_any (meets b) stretches)
any_reach b low most [] rise = refl
any_reach b low most (s ∷ stretches) rise =
    let e = nat_lt (low - b.first) (sectors b.kind) in
    let fm = nat_le b.first most in
    let sf = nat_lt (s.first - b.first) (sectors b.kind) in
    let fl = nat_le b.first s.reach in
    let y = list_any (meets b) stretches in
    ap (λ (t : Bool). (e && fm) || t) (any_reach b s.first (max most s.reach) stretches rise.1)
    ∙ ap (λ (t : Bool). (e && fm) || ((sf && t) || y)) (le_max b.first most s.reach)
    ∙ table e fm sf fl y (earlier_too b.first (sectors b.kind) low s.first rise.0)

any_reach_all : (b : Block) (stretches : List Stretch) → IsNonDecreasingBy (λ (s : Stretch). s.first) stretches → list_any (meets b) (with_reach 0 stretches) ≡ list_any (meets b) stretches
any_reach_all b [] rising = refl
any_reach_all b (s ∷ stretches) rising =
    let same : max 0 s.reach ≡ s.reach = omega arith in
    let rise = rise_from 0 (s ∷ stretches) rising (λ d more. omega arith) in
    any_reach b s.first (max 0 s.reach) stretches rise.1
    ∙ ap (λ (n : ℕ). (nat_lt (s.first - b.first) (sectors b.kind) && nat_le b.first n) || list_any (meets b) stretches) same

-- ---- they are sorted

-- by a number of each, from here on
abbrev RiseBy : (Stretch → ℕ) → ℕ → List Stretch → Type 0
RiseBy n low [] = Unit {0}
RiseBy n low (s ∷ stretches) = (low ≤ n s) × RiseBy n (n s) stretches

next_rises : (n : Stretch → ℕ) (low : ℕ) (stretches : List Stretch) → RiseBy n low stretches → (k : ℕ) (d : Stretch) → k + 1 < length stretches → n (get_or stretches k d) ≤ n (get_or stretches (k + 1) d)
next_rises n low [] rise k d lt = absurd (omega arith)
next_rises n low (s ∷ []) rise k d lt = absurd (omega arith)
next_rises n low (s ∷ t ∷ stretches) rise zero d lt = rise.1.0
next_rises n low (s ∷ t ∷ stretches) rise (suc k) d lt =
    let next : suc k + 1 ≡ suc (k + 1) = omega arith in
    subst (λ (j : ℕ). n (get_or (t ∷ stretches) k d) ≤ n (get_or (s ∷ t ∷ stretches) j d)) (sym next) (next_rises n (n s) (t ∷ stretches) rise.1 k d (omega arith))

by_rise : (n : Stretch → ℕ) (low : ℕ) (stretches : List Stretch) → RiseBy n low stretches → IsNonDecreasingBy n stretches
by_rise n low stretches rise = IsNonDecreasingBy-from_all_adjacent n stretches (λ k d lt. next_rises n low stretches rise k d lt)

firsts_rise : (low most : ℕ) (stretches : List Stretch) → Rise low stretches → RiseBy (λ (s : Stretch). s.first) low (with_reach most stretches)
firsts_rise low most [] rise = tt
firsts_rise low most (s ∷ stretches) rise = (rise.0, firsts_rise s.first (max most s.reach) stretches rise.1)

reaches_rise : (most : ℕ) (stretches : List Stretch) → RiseBy (λ (s : Stretch). s.reach) most (with_reach most stretches)
reaches_rise most [] = tt
reaches_rise most (s ∷ stretches) = (omega arith, reaches_rise (max most s.reach) stretches)

pub sorted_stretches : (stretches : List Stretch) → IsNonDecreasingBy (λ (s : Stretch). s.first) stretches → AreSorted (with_reach 0 stretches)
sorted_stretches stretches rising = record {
  rising = by_rise (λ (s : Stretch). s.first) 0 (with_reach 0 stretches) (firsts_rise 0 0 stretches (rise_from 0 stretches rising (λ d more. omega arith)));
  reaching = by_rise (λ (s : Stretch). s.reach) 0 (with_reach 0 stretches) (reaches_rise 0 stretches);
}

pub stand_for : (place : LogPlace) (kept : List Block) (gathered sorted : List Stretch) → gathered ≡ stretches_in place.device (counted place) place.runs ++ map stretch_at kept → IsPermutation gathered sorted
    → IsNonDecreasingBy (λ (s : Stretch). s.first) sorted → StandFor (with_reach 0 sorted) (is_own place kept)
stand_for place kept gathered sorted is moved rising b wide =
    any_reach_all b sorted rising
    ∙ sym (list_any-IsPermutation (meets b) gathered sorted moved)
    ∙ ap (list_any (meets b)) is
    ∙ list_any-append (meets b) (stretches_in place.device (counted place) place.runs) (map stretch_at kept)
    ∙ ap (λ (t : Bool). t || list_any (meets b) (map stretch_at kept)) (log_met place b)
    ∙ ap (λ (t : Bool). is_in_log place b || t) (blocks_met b kept wide)

pub gathered_of : (place : LogPlace) (kept : List Block) (none front all : List Stretch) (left : ℕ) (runs : List Extent) → none ≡ [] → left ≡ counted place → runs ≡ place.runs → front ≡ none ++ stretches_in place.device left runs → all ≡ front ++ map stretch_at kept
    → all ≡ stretches_in place.device (counted place) place.runs ++ map stretch_at kept
gathered_of place kept none front all left runs empty left_is runs_are front_is all_is =
    all_is
    ∙ ap (λ (l : List Stretch). l ++ map stretch_at kept) (front_is ∙ ap (λ (l : List Stretch). l ++ stretches_in place.device left runs) empty ∙ ap (λ (n : ℕ). stretches_in place.device n runs) left_is ∙ ap (stretches_in place.device (counted place)) runs_are)

-- ---- a search

abbrev begins_before : Block → Stretch → Bool
begins_before b s = nat_lt (s.first - b.first) (sectors b.kind)

-- how many of them begin before the block ends
pub record Parts (b : Block) (stretches : List Stretch) (count : ℕ) : Type 0 where
  pub inside : count ≤ length stretches
  pub before : (k : ℕ) (d : Stretch) → k < count → begins_before b (get_or stretches k d) ≡ true
  pub behind : (k : ℕ) (d : Stretch) → count ≤ k → k < length stretches → begins_before b (get_or stretches k d) ≡ false

pub none_met : (b : Block) (stretches : List Stretch) (count : ℕ) → Parts b stretches count → count ≤ 0 → false ≡ list_any (meets b) stretches
none_met b stretches count parts none =
    sym (list_any_none (meets b) stretches (λ k d lt. and_left (begins_before b (get_or stretches k d)) (nat_le b.first (get_or stretches k d).reach) (parts.behind k d (omega arith) lt)))

and_right : (x y : Bool) → y ≡ false → (x && y) ≡ false
and_right true y e = e
and_right false y e = refl

pub last_met : (b : Block) (stretches : List Stretch) (count : ℕ) (reached : Bool) → AreSorted stretches → Parts b stretches count → 0 < count → ((d : Stretch) → reached ≡ nat_le b.first (get_or stretches (count - 1) d).reach) → reached ≡ list_any (meets b) stretches
last_met b stretches count true sorted parts some is =
    let none : Stretch = record { first = 0; reach = 0 } in
    sym (list_any_at (meets b) stretches (count - 1) none (omega (arith, parts.inside))
    (and_from (begins_before b (get_or stretches (count - 1) none)) (nat_le b.first (get_or stretches (count - 1) none).reach) (parts.before (count - 1) none (omega arith)) (sym (is none))))
last_met b stretches count false sorted parts some is = sym (list_any_none (meets b) stretches (λ k d lt. each k d lt))
  where
    each : (k : ℕ) (d : Stretch) → k < length stretches → meets b (get_or stretches k d) ≡ false
    each k d lt = ⊎_elim
        (λ (h : k < count).
        (let less : (get_or stretches k d).reach ≤ (get_or stretches (count - 1) d).reach = sorted.reaching k (count - 1) d (omega arith) (omega (arith, parts.inside)) in
        let far = leb-false b.first (get_or stretches (count - 1) d).reach (sym (is d)) in
        and_right (begins_before b (get_or stretches k d)) (nat_le b.first (get_or stretches k d).reach) (lt-leb b.first (get_or stretches k d).reach (omega (arith, less, far)))))
        (λ (h : count ≤ k). and_left (begins_before b (get_or stretches k d)) (nat_le b.first (get_or stretches k d).reach) (parts.behind k d h lt))
        (cases_lt k count)
