-- The sectors of a stream between two VCNs that each run holds alike lie one after the other.
use Rattle.std.proofs.Common.{◌≡◌, ℕ, zero, suc, ◌+◌, ◌-◌, ◌*◌, ◌/◌, ◌%◌, ◌^◌, ◌<◌, ◌≤◌, min, Bool, true, false, cond, leb, ltb, List, [], ◌∷◌, ◌++◌, map, Option, Some, None, ◌⊎◌, inl, inr, refl, sym, ap, ◌∙◌, arith}
use Rattle.std.specs.Prelude.{◌&&◌, option_map, find, sum_by, All, IfSome}
use Rattle.std.specs.List.{AllByRecursion, range_with_len}
use Rattle.std.proofs.Math.Nat.{mul-div_cancel, mul-le-mul_right, div-lt_iff_lt-mul, le-div_iff_mul-le}
use Rattle.std.proofs.lemmas.Nat.{div-add-mod', mul-le}
use Rattle.std.proofs.lemmas.Bool.{cases_lt, and_parts, leb-true, ltb-true, ltb-false, le-leb, lt-leb, le-ltb, lt-ltb}
use Rattle.std.proofs.lemmas.List.Elements.{recursion_from_All}
use Rattle.std.proofs.lemmas.List.Sums.{sum_by-cons, sum_by-append}
use Rattle.disk_model.specs.declared.block.BlockKind.TheVariants.{Plain}
use Rattle.state_model.specs.record_model.declared.runs.Run.{Run}
use Rattle.state_model.specs.record_model.Pairs.{cluster_limit}
use Rattle.state_model.specs.Streams.{holds, lcn_in, block_at}
use Rattle.state_model.specs.record_model.Runs.{IsSmall, AreSmall}
use Rattle.log_recovery.specs.log_page.declared.places.Extent.{Extent}
use Rattle.log_recovery.specs.log_reading.LogPages.{sector_in, sector_below}
use Rattle.image_open.specs.LogPlaces.{nowhere, first_of, stream_sector, sector_extent, IsHeldAlike, AreSectors}

-- ---- VCNs at which a run begins or ends

-- one VCN or the next one, of those above v
pub record IsNearer (v next vcn result : ℕ) : Type 0 where
  pub above : v < result
  pub below : result ≤ next
  pub cut : (vcn ≤ v) ⊎ (result ≤ vcn)

pub is_nearer : (v next vcn result : ℕ) → v < next → result ≡ cond (ltb v vcn) (min next vcn) next → IsNearer v next vcn result
is_nearer v next vcn result more = by_test (ltb v vcn) refl
  where
    by_test : (t : Bool) → ltb v vcn ≡ t → result ≡ cond t (min next vcn) next → IsNearer v next vcn result
    by_test true is same = (let lt = ltb-true v vcn is in record { above = omega arith; below = omega arith; cut = inr (omega arith) })
    by_test false is same = (let le = ltb-false v vcn is in record { above = omega arith; below = omega arith; cut = inl le })

begun_alike : (v next u vcn : ℕ) → v ≤ u → u < next → (vcn ≤ v) ⊎ (next ≤ vcn) → leb vcn u ≡ leb vcn v
begun_alike v next u vcn low high (inl before) = le-leb vcn u (omega arith) ∙ sym (le-leb vcn v before)
begun_alike v next u vcn low high (inr after) = lt-leb vcn u (omega arith) ∙ sym (lt-leb vcn v (omega arith))

ended_alike : (v next u vcn : ℕ) → v ≤ u → u < next → (vcn ≤ v) ⊎ (next ≤ vcn) → ltb u vcn ≡ ltb v vcn
ended_alike v next u vcn low high (inl before) = le-ltb u vcn (omega arith) ∙ sym (le-ltb v vcn before)
ended_alike v next u vcn low high (inr after) = lt-ltb u vcn (omega arith) ∙ sym (lt-ltb v vcn (omega arith))

-- a run that neither begins nor ends between
pub held_alike : (v next : ℕ) (r : Run) → (r.vcn ≤ v) ⊎ (next ≤ r.vcn) → (r.vcn + r.len ≤ v) ⊎ (next ≤ r.vcn + r.len) → IsHeldAlike v next r
held_alike v next r begin end u low high =
    ap (λ (b : Bool). b && ltb u (r.vcn + r.len)) (begun_alike v next u r.vcn low high begin)
    ∙ ap (λ (b : Bool). leb r.vcn v && b) (ended_alike v next u (r.vcn + r.len) low high end)

sooner : (v begin next vcn : ℕ) → next ≤ begin → (vcn ≤ v) ⊎ (begin ≤ vcn) → (vcn ≤ v) ⊎ (next ≤ vcn)
sooner v begin next vcn le (inl before) = inl before
sooner v begin next vcn le (inr after) = inr (omega arith)

whole_end : (v next vcn end : ℕ) → next < 2 ^ 56 → v < next → end ≡ min vcn (2 ^ 64 - 1) → (end ≤ v) ⊎ (next ≤ end) → (vcn ≤ v) ⊎ (next ≤ vcn)
whole_end v next vcn end small more is (inl before) = inl (omega arith)
whole_end v next vcn end small more is (inr after) = inr (omega arith)

-- by the nearer one of its begin and its end
pub next_alike : (v next begin end result : ℕ) (r : Run) → next < 2 ^ 56 → end ≡ min (r.vcn + r.len) (2 ^ 64 - 1) → IsNearer v next r.vcn begin → IsNearer v begin end result → IsHeldAlike v result r
next_alike v next begin end result r small is first second =
    held_alike v result r (sooner v begin result r.vcn second.below first.cut) (whole_end v result (r.vcn + r.len) end (omega (arith, first.below, second.below)) second.above is second.cut)

-- ---- runs that are found

-- the first run that holds a VCN holds each one that is held alike
found_by : (v next u : ℕ) (runs : List Run) → AllByRecursion (IsHeldAlike v next) runs → v ≤ u → u < next → find (holds u u) runs ≡ find (holds v v) runs
found_by v next u [] all low high = refl
found_by v next u (r ∷ runs) all low high =
    ap (λ (t : Bool). cond t (Some r) (find (holds u u) runs)) (all.0 u low high)
    ∙ ap (cond (holds v v r) (Some r)) (found_by v next u runs all.1 low high)

found_alike : (v next u : ℕ) (runs : List Run) → All (IsHeldAlike v next) runs → v ≤ u → u < next → find (holds u u) runs ≡ find (holds v v) runs
found_alike v next u runs all = found_by v next u runs (recursion_from_All (IsHeldAlike v next) runs all)

-- a run that is found passes, and has what each of the runs has
first_has : {A : Type 0} (P : A → Type 0) (t : Bool) (a : A) (rest : Option A) → (t ≡ true → P a) → IfSome rest P → IfSome (cond t (Some a) rest) P
first_has P true a rest here later = here refl
first_has P false a rest here later = later

found_has : (p : Run → Bool) (P : Run → Type 0) (runs : List Run) → AllByRecursion P runs → IfSome (find p runs) (λ r. (p r ≡ true) × P r)
found_has p P [] all = tt
found_has p P (r ∷ runs) all = first_has (λ x. (p x ≡ true) × P x) (p r) r (find p runs) (λ passed. (passed, all.0)) (found_has p P runs all.1)

-- ---- a sector in a run

-- where a stream's sector lies in a run that begins at this VCN and this cluster
abbrev place_by : ℕ → ℕ → ℕ → Option ℕ → ℕ
place_by per n vcn lcn = first_of (option_map (λ lcn. record { first = lcn * per + n % per; kind = Plain }) (option_map (λ lcn. lcn + (n / per - vcn)) lcn))

abbrev place_in : ℕ → ℕ → Option Run → ℕ
place_in per n None = nowhere
place_in per n (Some r) = place_by per n r.vcn r.lcn

place_found : (per n : ℕ) (o : Option Run) → first_of (option_map (λ lcn. record { first = lcn * per + n % per; kind = Plain }) (lcn_in (n / per) o)) ≡ place_in per n o
place_found per n None = refl
place_found per n (Some r) = refl

sector_is : (per : ℕ) (runs : List Run) (n v : ℕ) → n / per ≡ v → stream_sector per runs n ≡ place_in per n (find (holds v v) runs)
unfolding stream_sector block_at
sector_is per runs n v is =
    let first : 1 * n ≡ n = omega arith in
    let last : 1 * n + 1 - 1 ≡ n = omega arith in
    let at : ℕ → ℕ → ℕ = λ a b. first_of (option_map (λ lcn. record { first = lcn * per + a % per; kind = Plain }) (lcn_in (a / per) (find (holds (a / per) (b / per)) runs))) in
    ap (λ (a : ℕ). at a (1 * n + 1 - 1)) first
    ∙ ap (at n) last
    ∙ place_found per n (find (holds (n / per) (n / per)) runs)
    ∙ ap (λ (u : ℕ). place_in per n (find (holds u u) runs)) is

-- past each device's end
past : (device s : ℕ) → device ≤ s → sector_below device (Some s) ≡ None
past device s le = ap (λ (b : Bool). cond b (Some s) None) (le-ltb s device le)

-- so many sectors further in one run
further : (per lcn vcn v q n : ℕ) → 0 < per → vcn ≤ v → v ≤ q → q ≡ n / per → (lcn + (v * per / per - vcn)) * per + v * per % per + (n - v * per) ≡ (lcn + (n / per - vcn)) * per + n % per
further per lcn vcn v q n some low more is =
    let here : v * per / per ≡ v = mul-div_cancel v some in
    let whole : v * per / per * per + v * per % per ≡ v * per = div-add-mod' (v * per) per in
    let begin : v * per / per * per ≡ v * per = ap (λ (x : ℕ). x * per) here in
    let place : n / per * per + n % per ≡ n = div-add-mod' n per in
    let first : (lcn + (v * per / per - vcn)) * per ≡ (lcn + (v - vcn)) * per = ap (λ (x : ℕ). (lcn + (x - vcn)) * per) here in
    let last : (lcn + (n / per - vcn)) * per ≡ (lcn + (q - vcn)) * per = ap (λ (x : ℕ). (lcn + (x - vcn)) * per) (sym is) in
    let same : n / per * per ≡ q * per = ap (λ (x : ℕ). x * per) (sym is) in
    let apart : q ≡ v + (q - v) = omega arith in
    let parts : q * per ≡ v * per + (q - v) * per = omega (arith, ap (λ (x : ℕ). x * per) apart) in
    let step : lcn + (q - vcn) ≡ lcn + (v - vcn) + (q - v) = omega arith in
    let steps : (lcn + (q - vcn)) * per ≡ (lcn + (v - vcn)) * per + (q - v) * per = omega (arith, ap (λ (x : ℕ). x * per) step) in
    omega (arith, whole, begin, place, first, last, same, parts, steps)

-- the sectors from a VCN on lie one after the other in the run that holds it, and nowhere where none does
moved_by : (per device v n vcn : ℕ) (lcn : Option ℕ) → 0 < per → device ≤ nowhere → vcn ≤ v → v ≤ n / per
    → sector_below device (Some (place_by per (v * per) vcn lcn + (n - v * per))) ≡ sector_below device (Some (place_by per n vcn lcn))
moved_by per device v n vcn None some end low more = past device (nowhere + (n - v * per)) (omega arith) ∙ sym (past device nowhere end)
moved_by per device v n vcn (Some lcn) some end low more = ap (λ (s : ℕ). sector_below device (Some s)) (further per lcn vcn v (n / per) n some low more refl)

moved_in : (per device v n : ℕ) (o : Option Run) → 0 < per → device ≤ nowhere → IfSome o (λ r. holds v v r ≡ true) → v ≤ n / per
    → sector_below device (Some (place_in per (v * per) o + (n - v * per))) ≡ sector_below device (Some (place_in per n o))
moved_in per device v n None some end has more = past device (nowhere + (n - v * per)) (omega arith) ∙ sym (past device nowhere end)
moved_in per device v n (Some r) some end has more =
    let low = leb-true r.vcn v (and_parts (leb r.vcn v) (ltb v (r.vcn + r.len)) has).0 in
    moved_by per device v n r.vcn r.lcn some end low more

holder : (v : ℕ) (runs : List Run) → IfSome (find (holds v v) runs) (λ r. holds v v r ≡ true)
holder v [] = tt
holder v (r ∷ runs) = first_has (λ x. holds v v x ≡ true) (holds v v r) r (find (holds v v) runs) (λ passed. passed) (holder v runs)

moved : (per : ℕ) (runs : List Run) (device v next n : ℕ) → 0 < per → device ≤ nowhere → All (IsHeldAlike v next) runs → v * per ≤ n → n < next * per
    → sector_below device (Some (stream_sector per runs (v * per) + (n - v * per))) ≡ sector_below device (Some (stream_sector per runs n))
moved per runs device v next n some end alike from to =
    let low : v ≤ n / per = (le-div_iff_mul-le {k = per} {x = v} {y = n} some).1 from in
    let high : n / per < next = (div-lt_iff_lt-mul {k = per} {x = n} {y = next} some).1 to in
    let o : Option Run = find (holds v v) runs in
    let begin : stream_sector per runs (v * per) ≡ place_in per (v * per) o = sector_is per runs (v * per) v (mul-div_cancel v some) in
    let here : stream_sector per runs n ≡ place_in per n o = sector_is per runs n (n / per) refl ∙ ap (place_in per n) (found_alike v next (n / per) runs alike low high) in
    ap (λ (s : ℕ). sector_below device (Some (s + (n - v * per)))) begin
    ∙ moved_in per device v n o some end (holder v runs) low
    ∙ sym (ap (λ (s : ℕ). sector_below device (Some s)) here)

-- ---- small numbers

near_by : (per n vcn len : ℕ) (lcn : Option ℕ) → 0 < per → per ≤ 8 → IfSome lcn (λ lcn. lcn < cluster_limit) → len ≤ cluster_limit → n / per < vcn + len → place_by per n vcn lcn ≤ 2 ^ 62
near_by per n vcn len None some few small short within = omega arith
near_by per n vcn len (Some lcn) some few small short within =
    let at : lcn + (n / per - vcn) ≤ 2 ^ 34 = omega arith in
    let product : (lcn + (n / per - vcn)) * per ≤ 2 ^ 34 * 8 = mul-le (lcn + (n / per - vcn)) per (2 ^ 34) 8 at few in
    omega (arith, product)

near_in : (per n : ℕ) (o : Option Run) → 0 < per → per ≤ 8 → IfSome o (λ r. (holds (n / per) (n / per) r ≡ true) × IsSmall r) → place_in per n o ≤ 2 ^ 62
near_in per n None some few has = omega arith
near_in per n (Some r) some few has =
    let parts = and_parts (leb r.vcn (n / per)) (ltb (n / per) (r.vcn + r.len)) has.0 in
    near_by per n r.vcn r.len r.lcn some few has.1.lcn has.1.len (ltb-true (n / per) (r.vcn + r.len) parts.1)

pub near : (per : ℕ) (runs : List Run) (n : ℕ) → 0 < per → per ≤ 8 → AreSmall runs → stream_sector per runs n ≤ 2 ^ 62
near per runs n some few small =
    let is = sector_is per runs n (n / per) refl in
    let at = near_in per n (find (holds (n / per) (n / per)) runs) some few (found_has (holds (n / per) (n / per)) IsSmall runs (recursion_from_All IsSmall runs small)) in
    omega (arith, is, at)

-- ---- sectors of a list

abbrev total : List Extent → ℕ
total xs = sum_by (λ (x : Extent). x.sectors) xs

total-cons : (x : Extent) (xs : List Extent) → total (x ∷ xs) ≡ x.sectors + total xs
total-cons x xs = sum_by-cons (λ (x : Extent). x.sectors) x xs

in_front : (xs ys : List Extent) (n : ℕ) → n < total xs → sector_in (xs ++ ys) n ≡ sector_in xs n
in_front [] ys n lt = absurd (omega arith)
in_front (x ∷ xs) ys n lt = elim (cases_lt n x.sectors) [
  | inl low ↦ rw (lt-ltb n x.sectors low) refl
  | inr high ↦ rw (le-ltb n x.sectors high) (in_front xs ys (n - x.sectors) (omega (arith, total-cons x xs)))
]

behind : (xs ys : List Extent) (n : ℕ) → total xs ≤ n → sector_in (xs ++ ys) n ≡ sector_in ys (n - total xs)
behind [] ys n le = (let same : n ≡ n - 0 = omega arith in ap (sector_in ys) same)
behind (x ∷ xs) ys n le =
    let all = total-cons x xs in
    let rest : n - x.sectors - total xs ≡ n - total (x ∷ xs) = omega arith in
    rw (le-ltb n x.sectors (omega arith)) (behind xs ys (n - x.sectors) (omega arith) ∙ ap (sector_in ys) rest)

only : (x : Extent) (n : ℕ) → n < x.sectors → sector_in (x ∷ []) n ≡ Some (x.first + n)
only x n lt = rw (lt-ltb n x.sectors lt) refl

pub none_yet : (per : ℕ) (runs : List Run) → AreSectors per runs 0 []
none_yet per runs = record { size = refl; lie = λ device n end lt. absurd (omega arith) }

-- the sectors up to the next VCN
pub more_sectors : (per : ℕ) (runs : List Run) (v next first count : ℕ) (xs ys : List Extent) → 0 < per → v < next → All (IsHeldAlike v next) runs → first ≡ stream_sector per runs (v * per) → count ≡ (next - v) * per
    → ys ≡ xs ++ record { first = first; sectors = count } ∷ [] → AreSectors per runs (v * per) xs → AreSectors per runs (next * per) ys
more_sectors per runs v next first count xs ys some above alike is size all so_far = record {
  size = ap total all ∙ sum_by-append (λ (x : Extent). x.sectors) xs (x ∷ []) ∙ sizes;
  lie = λ device n end lt. ap (λ (s : List Extent). sector_below device (sector_in s n)) all ∙ elim (cases_lt n (v * per)) [
    | inl low ↦ ap (sector_below device) (in_front xs (x ∷ []) n (omega (arith, so_far.size))) ∙ so_far.lie device n end low
    | inr high ↦
        (ap (sector_below device) (behind xs (x ∷ []) n (omega (arith, so_far.size)) ∙ ap (sector_in (x ∷ [])) (later n) ∙ only x (n - v * per) (omega (arith, products)))
        ∙ ap (λ (s : ℕ). sector_below device (Some (s + (n - v * per)))) is
        ∙ moved per runs device v next n some end alike high lt)
  ];
}
  where
    x : Extent
    x = record { first = first; sectors = count }

    products : v * per + count ≡ next * per
    products =
        let whole : next ≡ v + (next - v) = omega arith in
        omega (arith, size, ap (λ (k : ℕ). k * per) whole)

    sizes : total xs + (0 + count) ≡ next * per
    sizes = omega (arith, so_far.size, products)

    later : (n : ℕ) → n - total xs ≡ n - v * per
    later n = ap (λ (k : ℕ). n - k) so_far.size

-- ---- each by itself

pub one_each : (per : ℕ) (runs : List Run) (at count n : ℕ) → n < count → sector_in (map (sector_extent per runs) (range_with_len at count)) n ≡ Some (stream_sector per runs (at + n))
one_each per runs at zero n lt = absurd (omega arith)
one_each per runs at (suc count) zero lt =
    let here : at ≡ at + zero = omega arith in
    let first : stream_sector per runs at + zero ≡ stream_sector per runs at = omega arith in
    ap (λ (s : ℕ). Some s) (first ∙ ap (stream_sector per runs) here)
one_each per runs at (suc count) (suc n) lt =
    let behind_one : suc n - 1 ≡ n = omega arith in
    let same : at + 1 + n ≡ at + suc n = omega arith in
    let rest : List Extent = map (sector_extent per runs) (range_with_len (at + 1) count) in
    rw (le-ltb (suc n) 1 (omega arith)) (ap (sector_in rest) behind_one ∙ one_each per runs (at + 1) count n (omega arith) ∙ ap (λ (s : ℕ). Some (stream_sector per runs s)) same)

-- ---- room

pub less : (per v next : ℕ) → v ≤ next → v * per ≤ next * per
less per v next le = mul-le-mul_right per le
