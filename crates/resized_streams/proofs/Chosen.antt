-- Chosen runs behind those of a stream.
use Rattle.std.proofs.Common.{◌≡◌, ℕ, ◌+◌, ◌*◌, ◌^◌, ◌%◌, ◌/◌, ◌-◌, ◌<◌, ◌≤◌, Bool, true, false, cond, eqb, List, [], ◌∷◌, ◌++◌, length, map, inl, inr, Option, Some, None, refl, sym, ap, ◌∙◌, subst, arith}
use Rattle.std.specs.Prelude.{not, count_by, IfSome, min, Result, Ok, Err}
use Rattle.std.proofs.lemmas.List.{length-append, length-map}
use Rattle.record_streams.specs.record_model.declared.runs.Run.{Run}
use Rattle.record_streams.specs.record_model.Pairs.{cluster_limit, Follow, HasSpelling}
use Rattle.record_streams.specs.state_model.Clusters.{IsClusterSize}
use Rattle.record_streams.specs.state_model.Loads.{total_clusters}
use Rattle.plan_space.specs.space_model.Choosing.{with_run, chosen}
use Rattle.plan_space.specs.space_model.Laws.{AreFree, clusters_of}
use Rattle.plan_space.proofs.space_model.Lawful.{chosen_are_free}
use Rattle.plan_space.proofs.space_model.Searching.{length-with_run}
use Rattle.record_streams.specs.stream_runs.Runs.{touches, in_front, merged, moved, grown, front}
use Rattle.record_streams.proofs.stream_runs.Merging.{both, total-merged, total-append, total-moved, follow-merged, follow-grown}
use Rattle.record_streams.proofs.Spelled.{total_few}
use Rattle.record_streams.proofs.stream_runs.Parts.{total-front, follow-front}
use Rattle.record_streams.proofs.stream_runs.Places.{cut, kept, front_whole, front_cut}
use Rattle.std.proofs.lemmas.Bool.{cases_lt}

same_total : (runs : List Run) → clusters_of runs ≡ total_clusters runs
same_total [] = refl
same_total (r ∷ runs) = ap (λ (n : ℕ). r.len + n) (same_total runs)

pub total_chosen : (bits : List Bool) (last : Option ℕ) (n : ℕ) → n ≤ count_by not bits → total_clusters (chosen bits last n) ≡ n
total_chosen bits last n enough = sym (same_total (chosen bits last n)) ∙ chosen_are_free.count bits last n enough

free_follow : (bits : List Bool) (vcn : ℕ) (runs : List Run) → AreFree bits vcn runs → length bits ≤ cluster_limit → vcn + total_clusters runs ≤ cluster_limit → Follow 0 vcn runs
free_follow bits vcn [] free few room = tt
free_follow bits vcn (r ∷ runs) free few room =
    let first = free.0 in
    let is = free.1 in
    let at : r.vcn ≡ (0 + vcn) % 2 ^ 64 = omega (arith, is.vcn_is, room) in
    let low : first < cluster_limit = omega (arith, is.clear.inside, is.some, few) in
    let lcn = subst (λ (o : Option ℕ). IfSome o (λ n. n < cluster_limit)) (sym is.lcn) low in
    let within : vcn + r.len ≤ cluster_limit = omega (arith, room) in
    (record { vcn = at; some = is.some; within = within; lcn = lcn }, free_follow (with_run first r.len bits) (vcn + r.len) runs free.2 (omega (arith, length-with_run first r.len bits, few)) (omega (arith, room)))

pub chosen_follow : (bits : List Bool) (last : Option ℕ) (n : ℕ) → n ≤ count_by not bits → length bits ≤ cluster_limit → n ≤ cluster_limit → HasSpelling 0 (chosen bits last n)
chosen_follow bits last n enough few room = free_follow bits 0 (chosen bits last n) (chosen_are_free.free bits last n) few (omega (arith, total_chosen bits last n enough, room))

-- ---- how many runs

follow_count : (first n : ℕ) (runs : List Run) → Follow first n runs → length runs ≤ total_clusters runs
follow_count first n [] follow = omega arith
follow_count first n (r ∷ runs) follow = omega (arith, follow_count first (n + r.len) runs follow.1, follow.0.some)

pub chosen_count : (bits : List Bool) (last : Option ℕ) (n : ℕ) → n ≤ count_by not bits → length bits ≤ cluster_limit → n ≤ cluster_limit → length (chosen bits last n) ≤ n
chosen_count bits last n enough few room = omega (arith, follow_count 0 0 (chosen bits last n) (chosen_follow bits last n enough few room), total_chosen bits last n enough)

front_count : (r s : Run) (runs : List Run) (t : Bool) → length (cond t (both r s ∷ runs) (r ∷ s ∷ runs)) ≤ length runs + 2
front_count r s runs true = omega arith
front_count r s runs false = omega arith

in_front_count : (r : Run) (runs : List Run) → length (in_front r runs) ≤ length runs + 1
in_front_count r [] = omega arith
in_front_count r (s ∷ runs) = omega (arith, front_count r s runs (touches r.lcn r.len s.lcn))

pub merged_count : (runs : List Run) → length (merged runs) ≤ length runs
unfolding merged
merged_count [] = omega arith
merged_count (r ∷ runs) = omega (arith, in_front_count r (merged runs), merged_count runs)

pub grown_count : (runs more : List Run) → length (grown runs more) ≤ length runs + length more
unfolding grown
grown_count runs more =
    let t : ℕ = total_clusters runs in
    omega (arith, merged_count (runs ++ map (moved t) more), length-append runs (map (moved t) more), length-map more (moved t))

pub total_grown : (runs more : List Run) → total_clusters (grown runs more) ≡ total_clusters runs + total_clusters more
unfolding grown
total_grown runs more =
    let t : ℕ = total_clusters runs in
    total-merged (runs ++ map (moved t) more) ∙ total-append runs (map (moved t) more) ∙ ap (λ (n : ℕ). t + n) (total-moved t more)

kept_count : (clusters : ℕ) (r : Run) (t : Bool) → length (cond t [] (cut clusters r ∷ [])) ≤ 1
kept_count clusters r true = omega arith
kept_count clusters r false = omega arith

pub shorter_count : (clusters : ℕ) (runs : List Run) → length (front clusters runs) ≤ length runs
unfolding front
shorter_count clusters [] = omega arith
shorter_count clusters (r ∷ runs) = elim (cases_lt clusters r.len) [
  | inl less ↦ omega (arith, ap length (front_cut clusters r runs less), kept_count clusters r (eqb clusters 0))
  | inr le ↦ omega (arith, ap length (front_whole clusters r runs le), shorter_count (clusters - r.len) runs)
]

-- so many were clear, where they are chosen
pub enough_of : {X E : Type 0} (answer : Result X E) (x : X) (e : E) (room wanted : ℕ) → answer ≡ Ok x → (room < wanted → answer ≡ Err e) → wanted ≤ room
enough_of answer x e room wanted was short = elim (cases_lt room wanted) [
  | inl less ↦ (let clash : Err e ≡ Ok x = sym (short less) ∙ was in absurd cc)
  | inr le ↦ le
]

pub few_front : (clusters : ℕ) (runs : List Run) → HasSpelling 0 runs → total_clusters (front clusters runs) ≤ cluster_limit
few_front clusters runs spelled = omega (arith, total-front clusters runs, total_few 0 0 runs spelled (omega arith))

pub follow_shortened : (clusters : ℕ) (runs : List Run) → HasSpelling 0 runs → HasSpelling 0 (merged (front clusters runs))
follow_shortened clusters runs spelled = follow-merged 0 0 (front clusters runs) (follow-front 0 0 clusters runs spelled)

pub shortened_count : (clusters : ℕ) (runs : List Run) → length (merged (front clusters runs)) ≤ length runs
shortened_count clusters runs = omega (arith, merged_count (front clusters runs), shorter_count clusters runs)

-- ---- how many clusters a size needs

pub few_for : (per size : ℕ) → IsClusterSize per → (size + (512 * per - 1)) / (512 * per) ≤ size / 512 + 1
few_for per size (inl one) = subst (λ (p : ℕ). (size + (512 * p - 1)) / (512 * p) ≤ size / 512 + 1) (sym one) (omega arith)
few_for per size (inr (inl two)) = subst (λ (p : ℕ). (size + (512 * p - 1)) / (512 * p) ≤ size / 512 + 1) (sym two) (omega arith)
few_for per size (inr (inr (inl four))) = subst (λ (p : ℕ). (size + (512 * p - 1)) / (512 * p) ≤ size / 512 + 1) (sym four) (omega arith)
few_for per size (inr (inr (inr eight))) = subst (λ (p : ℕ). (size + (512 * p - 1)) / (512 * p) ≤ size / 512 + 1) (sym eight) (omega arith)
