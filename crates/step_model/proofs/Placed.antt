-- Streams that grow one after the other take each cluster once, of those that were clear.
use Rattle.std.proofs.Common.{◌≡◌, ℕ, ◌+◌, ◌<◌, ◌≤◌, Bool, true, false, cond, not, List, [], ◌∷◌, Some, refl, sym, ap, ◌∙◌, ◌⊎◌, inl, inr, subst, arith}
use Rattle.std.specs.Prelude.{count_by}
use Rattle.std.specs.List.{AllByRecursion}
use Rattle.std.proofs.lemmas.Bool.{cases_lt}
use Rattle.std.proofs.lemmas.Bool.Decides.{nat_tests}
use Rattle.std.proofs.lemmas.List.Sums.{sum_by-cons}
use Rattle.plan_model.specs.record_model.declared.runs.Run.{Run}
use Rattle.plan_model.specs.bit_set.Bits.{bit, IsClearRun}
use Rattle.space_model.specs.Choosing.{chosen, with_run, with_runs, with_clusters}
use Rattle.space_model.specs.Laws.{clusters_of, AreFree, IsFree}
use Rattle.space_model.proofs.Lawful.{chosen_are_free}
use Rattle.space_model.proofs.Fitting.{counted_after}
use Rattle.space_model.proofs.Searching.{with_run-inside, with_run-others}
use Rattle.plan_model.specs.volume_model.Owners.{uses, covers, covers_from}
use Rattle.plan_model.proofs.stream_laws.Placing.{uses-cons, uses-append}
use Rattle.plan_model.proofs.stream_laws.Sharing.{uses-none}
use Rattle.stream_runs.specs.Runs.{last_cluster}
use Rattle.step_model.specs.Placing.{Growth, more_of, AllPlaced, taken_runs, wanted_by, PlacedOnce}

-- ---- one cluster

-- the cluster isn't taken, and its bit stays; or it is taken once, was clear and is set then
abbrev Sets : List Bool → List Bool → ℕ → ℕ → Type 0
Sets old new x n = ((n ≡ 0) × (bit new x ≡ bit old x)) ⊎ ((n ≡ 1) × (bit old x ≡ false) × (bit new x ≡ true))

set_again : (a b : Bool) → a ≡ true → b ≡ a → b ≡ false → ⊥
set_again a b set same clear = cc

in_turn : (old mid new : List Bool) (x n m : ℕ) → Sets old mid x n → Sets mid new x m → Sets old new x (n + m)
in_turn old mid new x n m (inl (none, kept)) (inl (no_more, same)) = inl (omega (arith, none, no_more), same ∙ kept)
in_turn old mid new x n m (inl (none, kept)) (inr (one, clear, set)) = inr (omega (arith, none, one), sym kept ∙ clear, set)
in_turn old mid new x n m (inr (one, clear, set)) (inl (no_more, same)) = inr (omega (arith, one, no_more), clear, same ∙ set)
in_turn old mid new x n m (inr (one, clear, set)) (inr (two, clear_then, set_then)) = absurd (set_again (bit mid x) (bit mid x) set refl clear_then)

-- ---- one run

outside_below : (first len x : ℕ) → x < first → cond {A = ℕ} (covers_from x len (Some first)) 1 0 ≡ 0
outside_below first len x below = grind (arith, nat_tests)

outside_past : (first len x : ℕ) → first + len ≤ x → cond {A = ℕ} (covers_from x len (Some first)) 1 0 ≡ 0
outside_past first len x past = grind (arith, nat_tests)

inside : (first len x : ℕ) → first ≤ x → x < first + len → cond {A = ℕ} (covers_from x len (Some first)) 1 0 ≡ 1
inside first len x le lt = grind (arith, nat_tests)

run_sets_by : (bits : List Bool) (first len x : ℕ) → IsClearRun bits first len → (x < first) ⊎ (first ≤ x) → (x < first + len) ⊎ (first + len ≤ x) → Sets bits (with_run first len bits) x (cond (covers_from x len (Some first)) 1 0)
run_sets_by bits first len x clear (inl below) other = inl (outside_below first len x below, with_run-others first len bits x (inl below))
run_sets_by bits first len x clear (inr le) (inr past) = inl (outside_past first len x past, with_run-others first len bits x (inr past))
run_sets_by bits first len x clear (inr le) (inl lt) = inr (inside first len x le lt, clear.clear x le lt, with_run-inside first len bits x le lt (let e : first + len ≤ _ = clear.inside in omega arith))

run_sets : (bits : List Bool) (vcn : ℕ) (r : Run) (first x : ℕ) → IsFree bits vcn r first → Sets bits (with_run first r.len bits) x (cond (covers x r) 1 0)
run_sets bits vcn r first x free =
    subst (λ lcn. Sets bits (with_run first r.len bits) x (cond (covers_from x r.len lcn) 1 0)) (sym free.lcn)
    (run_sets_by bits first r.len x free.clear (cases_lt x first) (cases_lt x (first + r.len)))

-- ---- runs

free_sets : (bits : List Bool) (vcn : ℕ) (runs : List Run) (x : ℕ) → AreFree bits vcn runs → Sets bits (with_runs runs bits) x (uses runs x)
unfolding with_runs
free_sets bits vcn [] x free = inl (uses-none x, refl)
free_sets bits vcn (r ∷ runs) x free =
    let first = free.0 in
    let here = run_sets bits vcn r first x free.1 in
    let behind = free_sets (with_run first r.len bits) (vcn + r.len) runs x free.2 in
    let all = in_turn bits (with_run first r.len bits) (with_runs runs (with_run first r.len bits)) x (cond (covers x r) 1 0) (uses runs x) here behind in
    let count = subst (Sets bits (with_runs runs (with_run first r.len bits)) x) (sym (uses-cons r runs x)) all in
    subst (λ lcn. Sets bits (with_runs runs (with_clusters lcn r.len bits)) x (uses (r ∷ runs) x)) (sym free.1.lcn) count

-- so many bits are clear no longer
free_counted : (bits : List Bool) (vcn : ℕ) (runs : List Run) → AreFree bits vcn runs → count_by not (with_runs runs bits) + clusters_of runs ≡ count_by not bits
unfolding with_runs
free_counted bits vcn [] free = omega arith
free_counted bits vcn (r ∷ runs) free =
    let first = free.0 in
    let one = counted_after first r.len bits free.1.clear in
    let others = free_counted (with_run first r.len bits) (vcn + r.len) runs free.2 in
    let same : count_by not (with_runs runs (with_clusters r.lcn r.len bits)) ≡ count_by not (with_runs runs (with_run first r.len bits)) = ap (λ lcn. count_by not (with_runs runs (with_clusters lcn r.len bits))) free.1.lcn in
    omega arith

-- ---- streams

-- the bits when all have taken their clusters
bits_then : List Growth → List Bool → List Bool
bits_then [] bits = bits
bits_then (g ∷ growths) bits = bits_then growths (with_runs g.runs bits)

growth_free : (bits : List Bool) (g : Growth) → g.runs ≡ chosen bits (last_cluster g.old) (more_of g) → AreFree bits 0 g.runs
growth_free bits g is = subst (AreFree bits 0) (sym is) (chosen_are_free.free bits (last_cluster g.old) (more_of g))

placed_sets : (bits : List Bool) (growths : List Growth) (x : ℕ) → AllPlaced bits growths → Sets bits (bits_then growths bits) x (uses (taken_runs growths) x)
unfolding bits_then
placed_sets bits [] x placed = inl (uses-none x, refl)
placed_sets bits (g ∷ growths) x placed =
    let here = free_sets bits 0 g.runs x (growth_free bits g placed.0) in
    let behind = placed_sets (with_runs g.runs bits) growths x placed.1 in
    let all = in_turn bits (with_runs g.runs bits) (bits_then growths (with_runs g.runs bits)) x (uses g.runs x) (uses (taken_runs growths) x) here behind in
    subst (Sets bits (bits_then growths (with_runs g.runs bits)) x) (sym (uses-append g.runs (taken_runs growths) x)) all

once : (bits : List Bool) (growths : List Growth) (x : ℕ) → AllPlaced bits growths → uses (taken_runs growths) x ≤ 1
once bits growths x placed = elim (placed_sets bits growths x placed) [
  | inl none ↦ omega (arith, none.0)
  | inr one ↦ omega (arith, one.0)
]

clear : (bits : List Bool) (growths : List Growth) (x : ℕ) → AllPlaced bits growths → 0 < uses (taken_runs growths) x → bit bits x ≡ false
clear bits growths x placed some = elim (placed_sets bits growths x placed) [
  | inl none ↦ absurd (omega (arith, none.0, some))
  | inr one ↦ one.1
]

count : (bits : List Bool) (growths : List Growth) → AllPlaced bits growths → wanted_by growths ≤ count_by not bits → AllByRecursion (λ g. clusters_of g.runs ≡ more_of g) growths
count bits [] placed enough = tt
count bits (g ∷ growths) placed enough =
    let sum = sum_by-cons more_of g growths in
    let here : clusters_of g.runs ≡ more_of g = ap clusters_of placed.0 ∙ chosen_are_free.count bits (last_cluster g.old) (more_of g) (omega (arith, sum, enough)) in
    let left = free_counted bits 0 g.runs (growth_free bits g placed.0) in
    (here, count (with_runs g.runs bits) growths placed.1 (omega (arith, sum, enough, here, left)))

pub placed_once : PlacedOnce
placed_once = record { count = count; once = once; clear = clear }
