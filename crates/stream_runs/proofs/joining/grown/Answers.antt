use Rattle.std.proofs.Common.{◌≡◌, ℕ, ◌+◌, ◌≤◌, List, ◌++◌, map, sym, ap, ap₂, ◌∙◌, subst, arith}
use Rattle.volume_model.specs.record_model.declared.runs.Run.{Run}
use Rattle.volume_model.specs.record_model.Pairs.{cluster_limit, Follow}
use Rattle.volume_model.specs.record_model.Runs.{AreSmall}
use Rattle.volume_model.specs.state_model.Loads.{total_clusters}
use Rattle.stream_runs.specs.Runs.{moved}
use Rattle.stream_runs.proofs.Merging.{total-append, total-moved, follow-append, follow-moved}
use Rattle.stream_runs.proofs.Looping.{small_follow}
use Rattle.stream_runs.proofs.joining.grown.Goals as goal

pub joined-requires-clause-few : goal.joined-requires-clause-few
joined-requires-clause-few c =
    let runs = c.args.runs.now in
    let more = c.args.more.now in
    let all : c.deref.result.now ≡ runs ++ map (moved (total_clusters runs)) more =
    c.deref.ensures.value
    ∙ c.in_ok-push_moved.ensures
    ∙ ap (λ (l : List Run). l ++ map (moved c.total_clusters.result) more) (c.in_ok-extend_from_slice.ensures.items ∙ ap₂ ◌++◌ c.new-all.ensures.items c.as_slice-old.ensures.value)
    ∙ ap (λ (n : ℕ). runs ++ map (moved n) more) (c.total_clusters.ensures ∙ ap total_clusters c.as_slice-old.ensures.value)
    in
    let sum = total-append runs (map (moved (total_clusters runs)) more) in
    omega (arith, ap total_clusters all, sum, total-moved (total_clusters runs) more, c.requires.few)

pub joined-requires-clause-small : goal.joined-requires-clause-small
joined-requires-clause-small c =
    let runs = c.args.runs.now in
    let more = c.args.more.now in
    let t = total_clusters runs in
    let all : c.deref.result.now ≡ runs ++ map (moved t) more =
    c.deref.ensures.value
    ∙ c.in_ok-push_moved.ensures
    ∙ ap (λ (l : List Run). l ++ map (moved c.total_clusters.result) more) (c.in_ok-extend_from_slice.ensures.items ∙ ap₂ ◌++◌ c.new-all.ensures.items c.as_slice-old.ensures.value)
    ∙ ap (λ (n : ℕ). runs ++ map (moved n) more) (c.total_clusters.ensures ∙ ap total_clusters c.as_slice-old.ensures.value)
    in
    let e : t + 0 ≡ 0 + t = omega arith in
    let behind = subst (λ (k : ℕ). Follow 0 k (map (moved t) more)) e (follow-moved t 0 more c.requires.more (omega (arith, c.requires.few))) in
    subst AreSmall (sym all) (small_follow 0 0 (runs ++ map (moved t) more) (follow-append 0 0 runs (map (moved t) more) c.requires.spelled behind))
