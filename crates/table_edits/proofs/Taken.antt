-- The bits of clusters that runs take, and the runs that are chosen of what is left.
use Rattle.std.proofs.Common.{◌≡◌, ℕ, ◌+◌, ◌<◌, ◌≤◌, Bool, true, false, cond, leb, ltb, List, [], ◌∷◌, length, Option, Some, None, refl, ap, ◌∙◌, inl, inr, arith}
use Rattle.std.specs.List.{list_all}
use Rattle.std.proofs.lemmas.Bool.{cases_Bool, cases_lt, and_parts, both_ways, false_from_ne_true, leb-true, ltb-true}
use Rattle.record_model.specs.declared.runs.Run.{Run}
use Rattle.bit_set.specs.Bits.{bit}
use Rattle.space_model.specs.Choosing.{with_run, with_clusters, with_runs}
use Rattle.space_model.proofs.Searching.{length-with_run, with_run-inside, with_run-others}
use Rattle.volume_model.specs.Owners.{covers, covers_from, uses}
use Rattle.volume_model.specs.Sizes.{lies_below, lies_inside}
use Rattle.stream_laws.proofs.Sharing.{uses-none}
use Rattle.stream_runs.proofs.Merging.{uses-cons}

-- a bit that is set stays so
run_keeps : (first len : ℕ) (bits : List Bool) (x : ℕ) → x < length bits → bit bits x ≡ true → bit (with_run first len bits) x ≡ true
run_keeps first len bits x low set = elim (cases_lt x first) [
  | inl before ↦ with_run-others first len bits x (inl before) ∙ set
  | inr from ↦ elim (cases_lt x (first + len)) [
    | inl here ↦ with_run-inside first len bits x from here low
    | inr behind ↦ with_run-others first len bits x (inr behind) ∙ set
  ]
]

length-clusters : (o : Option ℕ) (len : ℕ) (bits : List Bool) → length (with_clusters o len bits) ≡ length bits
length-clusters None len bits = refl
length-clusters (Some first) len bits = length-with_run first len bits

clusters_keep : (o : Option ℕ) (len : ℕ) (bits : List Bool) (x : ℕ) → x < length bits → bit bits x ≡ true → bit (with_clusters o len bits) x ≡ true
clusters_keep None len bits x low set = set
clusters_keep (Some first) len bits x low set = run_keeps first len bits x low set

runs_keep : (runs : List Run) (bits : List Bool) (x : ℕ) → x < length bits → bit bits x ≡ true → bit (with_runs runs bits) x ≡ true
unfolding with_runs
runs_keep [] bits x low set = set
runs_keep (r ∷ runs) bits x low set = runs_keep runs (with_clusters r.lcn r.len bits) x (omega (arith, low, length-clusters r.lcn r.len bits)) (clusters_keep r.lcn r.len bits x low set)

clusters_set : (o : Option ℕ) (len : ℕ) (bits : List Bool) (x : ℕ) → lies_below (length bits) len o ≡ true → covers_from x len o ≡ true → (x < length bits) × (bit (with_clusters o len bits) x ≡ true)
clusters_set None len bits x inside here = absurd cc
clusters_set (Some first) len bits x inside here =
    let both = and_parts (leb first x) (ltb x (first + len)) here in
    let low : first ≤ x = leb-true first x both.0 in
    let high : x < first + len = ltb-true x (first + len) both.1 in
    let end : first + len ≤ length bits = leb-true (first + len) (length bits) inside in
    let within : x < length bits = omega (arith, high, end) in
    (within, with_run-inside first len bits x low high within)

-- those of runs become set
pub runs_set : (runs : List Run) (bits : List Bool) (x : ℕ) → list_all (lies_inside (length bits)) runs ≡ true → 0 < uses runs x → bit (with_runs runs bits) x ≡ true
unfolding with_runs
runs_set [] bits x inside some = absurd (omega (arith, some, uses-none x))
runs_set (r ∷ runs) bits x inside some =
    let parts = and_parts (lies_inside (length bits) r) (list_all (lies_inside (length bits)) runs) inside in
    let sum : uses (r ∷ runs) x ≡ cond (covers x r) 1 0 + uses runs x = uses-cons r runs x in
    let after : List Bool = with_clusters r.lcn r.len bits in
    let long = length-clusters r.lcn r.len bits in
    elim (cases_Bool (covers x r)) [
      | inl here ↦ (let set = clusters_set r.lcn r.len bits x parts.0 here in runs_keep runs after x (let low = set.0 in omega (arith, low, long)) set.1)
      | inr other ↦
          (let none : cond {A = ℕ} (covers x r) 1 0 ≡ 0 = ap (λ (t : Bool). cond {A = ℕ} t 1 0) other in
          runs_set runs after x (ap (λ (n : ℕ). list_all (lies_inside n) runs) long ∙ parts.1) (omega (arith, some, sum, none)))
    ]

-- what is clear behind them was clear
pub clear_before : (runs : List Run) (bits : List Bool) (x : ℕ) → x < length bits → bit (with_runs runs bits) x ≡ false → bit bits x ≡ false
clear_before runs bits x low clear = false_from_ne_true (bit bits x) (λ set. both_ways (bit (with_runs runs bits) x) clear (runs_keep runs bits x low set))
