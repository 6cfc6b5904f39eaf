-- The run in which a block lies, among runs that stand in order.
use Rattle.std.proofs.Common.{◌≡◌, ℕ, zero, suc, ◌+◌, ◌-◌, ◌*◌, ◌/◌, ◌%◌, ◌<◌, ◌≤◌, Bool, true, false, cond, nat_le, leb, List, [], ◌∷◌, length, get_or, take, drop, find, Option, Some, None, refl, sym, ap, ◌∙◌, inl, inr, arith}
use Rattle.std.proofs.Common.{leb-true, leb-false, div-lt_iff_lt-mul, div-mul-le_self}
use Rattle.std.specs.Option.{option_map}
use Rattle.std.specs.List.Sorted.{IsNonDecreasingBy, IsPartitionPoint}
use Rattle.std.proofs.lemmas.Bool.{and_parts, cases_lt}
use Rattle.std.proofs.lemmas.Bool.Decides.{nat_tests}
use Rattle.stream_map.specs.disk_model.declared.block.BlockKind.TheVariants.{Index}
use Rattle.stream_map.specs.record_model.declared.runs.Run.{Run}
use Rattle.stream_map.specs.state_model.Streams.{holds, lcn_in, block_at}
use Rattle.index_tree.specs.Allocations.{stand_apart}

-- ---- runs in order rise

none_before : (runs : List Run) (end : ℕ) → stand_apart end runs ≡ true → (k : ℕ) (d : Run) → k < length runs → end ≤ (get_or runs k d).vcn
none_before [] end apart k d lt = absurd (omega arith)
none_before (r ∷ runs) end apart zero d lt = leb-true end r.vcn (and_parts (nat_le end r.vcn) (stand_apart (r.vcn + r.len) runs) apart).0
none_before (r ∷ runs) end apart (suc k) d lt =
    let parts = and_parts (nat_le end r.vcn) (stand_apart (r.vcn + r.len) runs) apart in
    let first : end ≤ r.vcn = leb-true end r.vcn parts.0 in
    let later : r.vcn + r.len ≤ (get_or runs k d).vcn = none_before runs (r.vcn + r.len) parts.1 k d (omega arith) in
    omega (arith, first, later)

rising_from : (runs : List Run) (end : ℕ) → stand_apart end runs ≡ true → IsNonDecreasingBy (λ r. r.vcn) runs
rising_from [] end apart i j d le lt = absurd (omega arith)
rising_from (r ∷ runs) end apart zero zero d le lt = omega arith
rising_from (r ∷ runs) end apart zero (suc j) d le lt =
    let parts = and_parts (nat_le end r.vcn) (stand_apart (r.vcn + r.len) runs) apart in
    let later : r.vcn + r.len ≤ (get_or runs j d).vcn = none_before runs (r.vcn + r.len) parts.1 j d (omega arith) in
    omega (arith, later)
rising_from (r ∷ runs) end apart (suc i) zero d le lt = absurd (omega arith)
rising_from (r ∷ runs) end apart (suc i) (suc j) d le lt =
    rising_from runs (r.vcn + r.len) (and_parts (nat_le end r.vcn) (stand_apart (r.vcn + r.len) runs) apart).1 i j d (omega arith) (omega arith)

pub rising : (runs : List Run) → stand_apart 0 runs ≡ true → IsNonDecreasingBy (λ r. r.vcn) runs
rising runs apart = rising_from runs 0 apart

-- ---- runs that don't hold the VCNs

begins_behind : (v w : ℕ) (r : Run) → v < r.vcn → holds v w r ≡ false
begins_behind v w r lt = grind (arith, nat_tests)

ends_before : (v w : ℕ) (r : Run) → r.vcn + r.len ≤ v → v ≤ w → holds v w r ≡ false
ends_before v w r le order = grind (arith, nat_tests)

found_behind : (v w : ℕ) (r : Run) (runs : List Run) → holds v w r ≡ false → find (holds v w) (r ∷ runs) ≡ find (holds v w) runs
found_behind v w r runs e = ap (λ (t : Bool). cond t (Some r) (find (holds v w) runs)) e

none_holds : (v w : ℕ) (runs : List Run) → ((k : ℕ) (d : Run) → k < length runs → v < (get_or runs k d).vcn) → find (holds v w) runs ≡ None
none_holds v w [] behind = refl
none_holds v w (r ∷ runs) behind = found_behind v w r runs (begins_behind v w r (behind 0 r (omega arith))) ∙ none_holds v w runs (λ k d lt. behind (suc k) d (omega arith))

-- the last run that doesn't begin behind the VCN, of runs that stand in order
last_holds : (v w end : ℕ) (runs : List Run) (i : ℕ) → v ≤ w → stand_apart end runs ≡ true → i < length runs → ((k : ℕ) (d : Run) → k ≤ i → (get_or runs k d).vcn ≤ v) → ((k : ℕ) (d : Run) → i < k → k < length runs → v < (get_or runs k d).vcn)
    → find (holds v w) (take 1 (drop i runs)) ≡ find (holds v w) runs
last_holds v w end [] i order apart lt begun behind = absurd (omega arith)
last_holds v w end (r ∷ runs) zero order apart lt begun behind = ap (λ (o : Option Run). cond (holds v w r) (Some r) o) (sym (none_holds v w runs (λ k d less. behind (suc k) d (omega arith) (omega arith))))
last_holds v w end (r ∷ []) (suc i) order apart lt begun behind = absurd (omega arith)
last_holds v w end (r ∷ s ∷ runs) (suc i) order apart lt begun behind =
    let parts = and_parts (nat_le end r.vcn) (stand_apart (r.vcn + r.len) (s ∷ runs)) apart in
    let next = and_parts (nat_le (r.vcn + r.len) s.vcn) (stand_apart (s.vcn + s.len) runs) parts.1 in
    let between : r.vcn + r.len ≤ s.vcn = leb-true (r.vcn + r.len) s.vcn next.0 in
    let here : s.vcn ≤ v = begun 1 s (omega arith) in
    last_holds v w (r.vcn + r.len) (s ∷ runs) i order parts.1 (omega arith) (λ k d le. begun (suc k) d (omega arith)) (λ k d more less. behind (suc k) d (omega arith) (omega arith))
    ∙ sym (found_behind v w r (s ∷ runs) (ends_before v w r (omega (arith, between, here)) order))

-- where so many runs don't begin behind the VCN
pub near_holds : (v w : ℕ) (runs : List Run) (first count : ℕ) → v ≤ w → stand_apart 0 runs ≡ true → count ≤ length runs → first ≡ count - 1 → IsPartitionPoint (λ (r : Run). leb r.vcn v ≡ true) (λ (r : Run). leb r.vcn v ≡ false) runs count
    → find (holds v w) (take (count - first) (drop first runs)) ≡ find (holds v w) runs
near_holds v w runs first zero order apart le is point =
    let none : zero - first ≡ 0 = omega arith in
    ap (λ (n : ℕ). find (holds v w) (take n (drop first runs))) none
    ∙ sym (none_holds v w runs (λ k d lt. leb-false (get_or runs k d).vcn v (point.1 k d (omega arith) lt)))
near_holds v w runs first (suc i) order apart le is point =
    let here : first ≡ i = omega (arith, is) in
    let one : suc i - i ≡ 1 = omega arith in
    ap (λ (k : ℕ). find (holds v w) (take (suc i - k) (drop k runs))) here
    ∙ ap (λ (n : ℕ). find (holds v w) (take n (drop i runs))) one
    ∙ last_holds v w 0 runs i order apart (omega arith) (λ k d less. leb-true (get_or runs k d).vcn v (point.0 k d (omega arith) (omega arith))) (λ k d more less. leb-false (get_or runs k d).vcn v (point.1 k d (omega arith) less))

-- ---- the block

-- the last cluster of a block isn't before the first one
in_turn : (per n : ℕ) → 0 < per → 8 * n / per ≤ (8 * n + 8 - 1) / per
in_turn per n some = elim (cases_lt ((8 * n + 8 - 1) / per) (8 * n / per)) [
  | inl lt ↦ (let less : 8 * n + 8 - 1 < 8 * n / per * per = (div-lt_iff_lt-mul {k = per} {x = 8 * n + 8 - 1} {y = 8 * n / per} some).0 lt in absurd (omega (arith, less, div-mul-le_self (8 * n) per)))
  | inr le ↦ le
]

pub near_block : (per n : ℕ) (near runs : List Run) → 0 < per → ((last : ℕ) → 8 * n / per ≤ last → find (holds (8 * n / per) last) near ≡ find (holds (8 * n / per) last) runs) → block_at per near Index n ≡ block_at per runs Index n
unfolding block_at
near_block per n near runs some same =
    ap (λ (found : Option Run). option_map (λ lcn. record { first = lcn * per + 8 * n % per; kind = Index }) (lcn_in (8 * n / per) found)) (same ((8 * n + 8 - 1) / per) (in_turn per n some))
