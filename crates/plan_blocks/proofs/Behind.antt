-- The blocks of an index behind its own clusters lie in those that it takes.
use Rattle.std.proofs.Common.{◌≡◌, ℕ, ◌+◌, ◌-◌, ◌*◌, ◌/◌, ◌%◌, ◌<◌, ◌≤◌, Bool, false, cond, leb, ltb, List, [], ◌∷◌, ◌++◌, Option, Some, refl, sym, ap, subst, ◌∙◌, arith}
use Rattle.std.specs.Prelude.{find, map}
use Rattle.std.specs.Option.{option_map}
use Rattle.std.proofs.lemmas.Bool.{and_right, le-ltb}
use Rattle.disk_model.specs.declared.block.Block.{Block}
use Rattle.disk_model.specs.declared.block.BlockKind.TheVariants.{Index}
use Rattle.disk_model.specs.Sectors.{HasSector}
use Rattle.record_model.specs.declared.runs.Run.{Run}
use Rattle.record_model.specs.Pairs.{cluster_limit, Follow, HasSpelling}
use Rattle.state_model.specs.Loads.{total_clusters}
use Rattle.state_model.specs.Streams.{holds, lcn_in, block_at}
use Rattle.volume_model.specs.Owners.{uses}
use Rattle.stream_laws.proofs.Placing.{lies_in_used}
use Rattle.stream_runs.specs.Laws.{InOneCluster}
use Rattle.stream_runs.specs.Runs.{moved, grown}
use Rattle.stream_runs.proofs.Merging.{follow-append, follow-moved, uses-moved}
use Rattle.stream_runs.proofs.Places.{Rise, rise_of, places-merged}
use Rattle.plan_edits.proofs.plan_growth.Alike.{one_cluster}

-- no run holds a cluster behind them all
none_holds : (first last n : ℕ) (runs others : List Run) → Rise n runs → n + total_clusters runs ≤ first → first ≤ last → find (holds first last) (runs ++ others) ≡ find (holds first last) others
none_holds first last n [] others rise past order = refl
none_holds first last n (r ∷ runs) others rise past order =
    let begins = rise.0 in
    let before : holds first last r ≡ false = and_right (leb r.vcn first) (ltb last (r.vcn + r.len)) (le-ltb last (r.vcn + r.len) (omega (arith, begins, past, order))) in
    ap (λ (t : Bool). cond t (Some r) (find (holds first last) (runs ++ others))) before ∙ none_holds first last (n + r.len) runs others rise.1 (omega (arith, past)) order

block_behind : (per m : ℕ) (runs others : List Run) → per ≡ 8 → HasSpelling 0 runs → total_clusters runs ≤ m → block_at per (runs ++ others) Index m ≡ block_at per others Index m
unfolding block_at
block_behind per m runs others eight spelled past =
    let first : ℕ = 8 * m / per in
    let last : ℕ = (8 * m + 8 - 1) / per in
    let begins : total_clusters runs ≤ first = subst (λ (p : ℕ). total_clusters runs ≤ 8 * m / p) (sym eight) (omega (arith, past)) in
    let order : first ≤ last = subst (λ (p : ℕ). 8 * m / p ≤ (8 * m + 8 - 1) / p) (sym eight) (omega arith) in
    ap (λ (o : Option Run). option_map (λ lcn. record { first = lcn * per + 8 * m % per; kind = Index }) (lcn_in first o)) (none_holds first last 0 runs others (rise_of 0 runs spelled) (omega (arith, begins)) order)

pub lies_in_more : (per m : ℕ) (runs more : List Run) (b : Block) → per ≡ 8 → HasSpelling 0 runs → HasSpelling 0 more → total_clusters runs + total_clusters more ≤ cluster_limit → total_clusters runs ≤ m → block_at per (grown runs more) Index m ≡ Some b
    → (s : ℕ) → HasSector b s → 1 ≤ uses more (s / per)
unfolding grown
lies_in_more per m runs more b eight spelled others room past at s has =
    let t : ℕ = total_clusters runs in
    let e : t + 0 ≡ 0 + t = omega arith in
    let behind = subst (λ (k : ℕ). Follow 0 k (map (moved t) more)) e (follow-moved t 0 more others (omega (arith, room))) in
    let all = follow-append 0 0 runs (map (moved t) more) spelled behind in
    let one = subst (λ (p : ℕ). InOneCluster p Index m) (sym eight) (one_cluster Index m) in
    let there : block_at per (map (moved t) more) Index m ≡ Some b = sym (block_behind per m runs (map (moved t) more) eight spelled past) ∙ sym (places-merged per (runs ++ map (moved t) more) Index m all one) ∙ at in
    let some : 0 < per = omega (arith, eight) in
    let used = lies_in_used per (map (moved t) more) Index m b some there s has in
    let same = uses-moved t more (s / per) in
    omega (arith, used, same)
