-- The clusters of the first of runs, and of those behind them.
use Rattle.std.proofs.Common.{◌≡◌, ℕ, ◌+◌, ◌-◌, ◌<◌, ◌≤◌, min, Bool, true, false, cond, eqb, leb, List, [], ◌∷◌, Option, Some, None, refl, sym, ap, ◌∙◌, subst, inl, inr, arith}
use Rattle.std.specs.Prelude.{IfSome}
use Rattle.std.proofs.lemmas.Bool.{cases_lt, eqb-true, eqb-false, le-leb, lt-leb}
use Rattle.volume_model.specs.record_model.declared.runs.Run.{Run}
use Rattle.volume_model.specs.record_model.Pairs.{cluster_limit, IsNext, Follow, HasSpelling}
use Rattle.volume_model.specs.state_model.Loads.{total_clusters}
use Rattle.volume_model.specs.Owners.{covers, covers_from, uses}
use Rattle.stream_runs.specs.Runs.{front, behind, back}
use Rattle.stream_runs.proofs.Merging.{uses-cons, stretch}
use Rattle.stream_runs.proofs.Places.{cut, kept, front_whole, front_cut}

pub back_whole : (clusters : ℕ) (r : Run) (runs : List Run) → r.len ≤ clusters → back clusters (r ∷ runs) ≡ back (clusters - r.len) runs
unfolding back
back_whole clusters r runs le = ap (λ (b : Bool). cond b (back (clusters - r.len) runs) (behind clusters r ∷ runs)) (le-leb r.len clusters le)

pub back_cut : (clusters : ℕ) (r : Run) (runs : List Run) → clusters < r.len → back clusters (r ∷ runs) ≡ behind clusters r ∷ runs
unfolding back
back_cut clusters r runs lt = ap (λ (b : Bool). cond b (back (clusters - r.len) runs) (behind clusters r ∷ runs)) (lt-leb r.len clusters lt)

-- ---- how many

total_kept : (clusters : ℕ) (r : Run) (t : Bool) → eqb clusters 0 ≡ t → total_clusters (cond t [] (cut clusters r ∷ [])) ≡ clusters
total_kept clusters r true is = sym (eqb-true clusters 0 is)
total_kept clusters r false is = omega arith

pub total-front : (clusters : ℕ) (runs : List Run) → total_clusters (front clusters runs) ≡ min clusters (total_clusters runs)
unfolding front
total-front clusters [] = omega arith
total-front clusters (r ∷ runs) = elim (cases_lt clusters r.len) [
  | inl less ↦ (let e = ap total_clusters (front_cut clusters r runs less) ∙ total_kept clusters r (eqb clusters 0) refl in omega (arith, e))
  | inr le ↦ (let e = ap total_clusters (front_whole clusters r runs le) in omega (arith, e, total-front (clusters - r.len) runs))
]

pub total-back : (clusters : ℕ) (runs : List Run) → total_clusters (back clusters runs) ≡ total_clusters runs - clusters
unfolding back
total-back clusters [] = omega arith
total-back clusters (r ∷ runs) = elim (cases_lt clusters r.len) [
  | inl less ↦ (let e = ap total_clusters (back_cut clusters r runs less) in omega (arith, e))
  | inr le ↦ (let e = ap total_clusters (back_whole clusters r runs le) in omega (arith, e, total-back (clusters - r.len) runs))
]

-- ---- which ones

covers_parts : (x clusters len : ℕ) (lcn : Option ℕ) → clusters ≤ len → cond (covers_from x clusters lcn) 1 0 + cond (covers x (behind clusters (record { vcn = 0; lcn = lcn; len = len }))) 1 0 ≡ cond (covers_from x len lcn) 1 0
covers_parts x clusters len None le = refl
covers_parts x clusters len (Some a) le =
    let e : clusters + (len - clusters) ≡ len = omega arith in
    sym (stretch x a clusters (len - clusters)) ∙ ap (λ (n : ℕ). cond (covers_from x n (Some a)) 1 0) e

kept_uses : (clusters : ℕ) (r : Run) (x : ℕ) (t : Bool) → eqb clusters 0 ≡ t → uses (cond t [] (cut clusters r ∷ [])) x ≡ cond (covers_from x clusters r.lcn) 1 0
unfolding uses
kept_uses clusters r x true is = none r.lcn clusters (eqb-true clusters 0 is)
  where
    none : (lcn : Option ℕ) (n : ℕ) → n ≡ 0 → uses [] x ≡ cond (covers_from x n lcn) 1 0
    none None n e = refl
    none (Some a) n e = grind arith
kept_uses clusters r x false is = (let e = uses-cons (cut clusters r) [] x in omega (arith, e))

uses-nil : (x : ℕ) → uses [] x ≡ 0
unfolding uses
uses-nil x = refl

pub uses_parts : (clusters : ℕ) (runs : List Run) (x : ℕ) → uses (front clusters runs) x + uses (back clusters runs) x ≡ uses runs x
unfolding front back
uses_parts clusters [] x = omega (arith, uses-nil x)
uses_parts clusters (r ∷ runs) x = elim (cases_lt clusters r.len) [
  | inl less ↦
      (let first = ap (λ (l : List Run). uses l x) (front_cut clusters r runs less) ∙ kept_uses clusters r x (eqb clusters 0) refl in
      let second = ap (λ (l : List Run). uses l x) (back_cut clusters r runs less) ∙ uses-cons (behind clusters r) runs x in
      let sum = covers_parts x clusters r.len r.lcn (omega arith) in
      omega (arith, first, second, sum, uses-cons r runs x))
  | inr le ↦
      (let first = ap (λ (l : List Run). uses l x) (front_whole clusters r runs le) ∙ uses-cons r (front (clusters - r.len) runs) x in
      let second = ap (λ (l : List Run). uses l x) (back_whole clusters r runs le) in
      omega (arith, first, second, uses_parts (clusters - r.len) runs x, uses-cons r runs x))
]

-- ---- their spelling

kept_follows : (first n clusters : ℕ) (r : Run) (t : Bool) → eqb clusters 0 ≡ t → clusters < r.len → IsNext first n r → Follow first n (cond t [] (cut clusters r ∷ []))
kept_follows first n clusters r true is less next = tt
kept_follows first n clusters r false is less next =
    let some : 0 < clusters = omega (arith, eqb-false clusters 0 is) in
    let within : n + clusters ≤ cluster_limit = omega (arith, next.within) in
    (record { vcn = next.vcn; some = some; within = within; lcn = next.lcn }, tt)

pub follow-front : (first n clusters : ℕ) (runs : List Run) → Follow first n runs → Follow first n (front clusters runs)
unfolding front
follow-front first n clusters [] follow = tt
follow-front first n clusters (r ∷ runs) follow = elim (cases_lt clusters r.len) [
  | inl less ↦ subst (Follow first n) (sym (front_cut clusters r runs less)) (kept_follows first n clusters r (eqb clusters 0) refl less follow.0)
  | inr le ↦ subst (Follow first n) (sym (front_whole clusters r runs le)) (follow.0, follow-front first (n + r.len) (clusters - r.len) runs follow.1)
]
