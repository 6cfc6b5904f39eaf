-- Blocks of runs that go on behind others lie in the first runs, or in clusters that no stream had.
use Rattle.std.proofs.Common.{◌≡◌, ◌⊎◌, ℕ, ◌+◌, ◌*◌, ◌/◌, ◌%◌, ◌≤◌, Bool, false, cond, leb, ltb, List, [], ◌∷◌, ◌++◌, Option, Some, refl, sym, ap, subst, ◌∙◌, inl, inr, arith}
use Rattle.std.specs.Prelude.{find, map}
use Rattle.std.specs.Option.{option_map}
use Rattle.std.proofs.lemmas.Bool.{cases_lt, and_right, le-ltb}
use Rattle.disk_model.specs.declared.block.Block.{Block}
use Rattle.disk_model.specs.declared.block.BlockKind.{BlockKind}
use Rattle.disk_model.specs.Content.{Content}
use Rattle.disk_model.specs.Sectors.{sectors}
use Rattle.record_model.specs.declared.runs.Run.{Run}
use Rattle.record_model.specs.Pairs.{cluster_limit, HasSpelling, Follow}
use Rattle.state_model.specs.declared.geometry.Geometry.{Geometry}
use Rattle.state_model.specs.Loads.{total_clusters}
use Rattle.state_model.specs.Streams.{holds, lcn_in, block_at}
use Rattle.volume_model.specs.Volumes.{Volume, cluster_bits}
use Rattle.volume_model.specs.Owners.{uses, volume_runs}
use Rattle.stream_laws.specs.Leaving.{LiesFree}
use Rattle.stream_laws.proofs.Leaving.{free_in_runs}
use Rattle.stream_runs.specs.Runs.{moved, grown}
use Rattle.stream_runs.specs.Laws.{InOneCluster}
use Rattle.stream_runs.proofs.Merging.{follow-append, follow-moved, uses-moved}
use Rattle.stream_runs.proofs.Places.{Rise, rise_of, places-merged, places-grown}
use Rattle.plan_growth.proofs.tree_laws.Keeping.{rules_of}
use Rattle.plan_growth.proofs.tree_laws.Owning.{in_no_stream}
use Rattle.plan_growth.specs.plan_owners.States.{Stands}
use Rattle.plan_growth.proofs.plan_owners.Outside.{unused_outside}
use Rattle.plan_growth.proofs.plan_model.Drafting.{per_is}
use Rattle.plan_growth.specs.Streams.{MayTake}
use Rattle.plan_growth.proofs.Alike.{one_cluster}

-- ---- a place behind runs

past_all : (runs others : List Run) (n v : ℕ) → Rise n runs → n + total_clusters runs ≤ v → find (holds v v) (runs ++ others) ≡ find (holds v v) others
past_all [] others n v rise past = refl
past_all (r ∷ runs) others n v rise past =
    let unheld : holds v v r ≡ false = and_right (leb r.vcn v) (ltb v (r.vcn + r.len)) (le-ltb v (r.vcn + r.len) (omega (arith, rise.0, past))) in
    ap (λ (t : Bool). cond t (Some r) (find (holds v v) (runs ++ others))) unheld ∙ past_all runs others (n + r.len) v rise.1 (omega (arith, past))

abbrev block_of : ℕ → BlockKind → ℕ → ℕ → Block
block_of per kind n lcn = record { first = lcn * per + sectors kind * n % per; kind = kind }

by_cluster : (per : ℕ) (runs : List Run) (kind : BlockKind) (n : ℕ) → InOneCluster per kind n → block_at per runs kind n ≡ option_map (block_of per kind n) (lcn_in (sectors kind * n / per) (find (holds (sectors kind * n / per) (sectors kind * n / per)) runs))
unfolding block_at
by_cluster per runs kind n one = ap (λ (w : ℕ). option_map (block_of per kind n) (lcn_in (sectors kind * n / per) (find (holds (sectors kind * n / per) w) runs))) one

places_behind : (per : ℕ) (runs more : List Run) (kind : BlockKind) (n : ℕ) → HasSpelling 0 runs → HasSpelling 0 more → total_clusters runs + total_clusters more ≤ cluster_limit → InOneCluster per kind n → total_clusters runs ≤ sectors kind * n / per
    → block_at per (grown runs more) kind n ≡ block_at per (map (moved (total_clusters runs)) more) kind n
unfolding grown
places_behind per runs more kind n spelled others room one past =
    let t : ℕ = total_clusters runs in
    let v : ℕ = sectors kind * n / per in
    let e : t + 0 ≡ 0 + t = omega arith in
    let behind = subst (λ (k : ℕ). Follow 0 k (map (moved t) more)) e (follow-moved t 0 more others (omega (arith, room))) in
    let all = follow-append 0 0 runs (map (moved t) more) spelled behind in
    places-merged per (runs ++ map (moved t) more) kind n all one
    ∙ by_cluster per (runs ++ map (moved t) more) kind n one
    ∙ ap (λ (o : Option Run). option_map (block_of per kind n) (lcn_in v o)) (past_all runs (map (moved t) more) 0 v (rise_of 0 runs spelled) (omega (arith, past)))
    ∙ sym (by_cluster per (map (moved t) more) kind n one)

-- ---- in a state

module _ (c : Content) (g : Geometry) (clusters : ℕ) (v : Volume) (more : List Run) (eight : g.per_cluster ≡ 8) (state : Stands c g clusters v) (taken : MayTake v.clusters (cluster_bits c v) more) where
  pub was_free : (x : ℕ) → 1 ≤ uses more x → uses (volume_runs v.files) x ≡ 0
  was_free x some = elim (cases_lt x v.clusters) [
    | inl low ↦ in_no_stream c v x (rules_of c v state.kept).rule_6 low (taken.clear x (omega (arith, some)))
    | inr past ↦ unused_outside c g clusters v x state past
  ]

  pub in_one : (kind : BlockKind) (m : ℕ) → InOneCluster v.per kind m
  in_one kind m = subst (λ (p : ℕ). InOneCluster p kind m) (sym (per_is c g clusters v eight state)) (one_cluster kind m)

  pub old_or_free : (runs : List Run) (kind : BlockKind) (m : ℕ) (b : Block) → HasSpelling 0 runs → total_clusters runs + total_clusters more ≤ cluster_limit → block_at v.per (grown runs more) kind m ≡ Some b → (block_at v.per runs kind m ≡ Some b) ⊎ LiesFree v b
  old_or_free runs kind m b spelled room lies = elim (cases_lt (sectors kind * m / v.per) (total_clusters runs)) [
    | inl below ↦ inl (sym (places-grown v.per runs more kind m spelled taken.spelled room (in_one kind m) below) ∙ lies)
    | inr past ↦
        inr
        (free_in_runs v (map (moved (total_clusters runs)) more) kind m b state.some (λ x some. was_free x (omega (arith, some, uses-moved (total_clusters runs) more x)))
        (sym (places_behind v.per runs more kind m spelled taken.spelled room (in_one kind m) past) ∙ lies))
  ]
