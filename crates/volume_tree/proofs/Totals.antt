-- The clusters of runs, summed from the first.
use Rattle.std.proofs.Common.{◌≡◌, ℕ, ◌+◌, ◌<◌, ◌≤◌, List, [], ◌∷◌, ◌++◌, length, get_or, refl, sym, ap, ◌∙◌, arith}
use Rattle.std.specs.Prelude.{take}
use Rattle.std.proofs.lemmas.List.{take_more, take_all}
use Rattle.volume_map.specs.record_model.declared.runs.Run.{Run}
use Rattle.state_model.specs.Loads.{total_clusters}

total-append : (xs ys : List Run) → total_clusters (xs ++ ys) ≡ total_clusters xs + total_clusters ys
total-append [] ys = omega arith
total-append (r ∷ xs) ys = let e : total_clusters (xs ++ ys) ≡ total_clusters xs + total_clusters ys = total-append xs ys in omega (arith, e)

pub total_begins : (runs : List Run) → 0 ≡ total_clusters (take 0 runs)
total_begins runs = refl

pub total_more : (runs : List Run) (i total next : ℕ) (d : Run) → i < length runs → total ≡ total_clusters (take i runs) → next ≡ total + (get_or runs i d).len → next ≡ total_clusters (take (i + 1) runs)
total_more runs i total next d lt before now =
    let e : total_clusters (take (i + 1) runs) ≡ total_clusters (take i runs) + total_clusters (get_or runs i d ∷ []) = ap total_clusters (take_more runs i d lt) ∙ total-append (take i runs) (get_or runs i d ∷ []) in
    omega (arith, e, before, now)

pub total_ends : (runs : List Run) (i total : ℕ) → length runs ≤ i → total ≡ total_clusters (take i runs) → total ≡ total_clusters runs
total_ends runs i total le before = before ∙ ap total_clusters (take_all i runs le)
