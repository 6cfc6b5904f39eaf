use Rattle.std.proofs.Common.{◌≡◌, ℕ, ◌+◌, List, ◌++◌, map, ◌∙◌, ap}
use Rattle.volume_model.specs.record_model.declared.runs.Run.{Run}
use Rattle.volume_model.specs.state_model.Loads.{total_clusters}
use Rattle.volume_model.specs.Owners.{uses}
use Rattle.stream_runs.specs.Runs.{moved, grown}
use Rattle.stream_runs.proofs.Merging.{total-merged, total-append, total-moved, uses-merged, uses-append, uses-moved, follow-grown}
use Rattle.stream_runs.proofs.Places.{places-grown}
use Rattle.stream_runs.proofs.laws.streams_grow.Goals as goal

total-grown : (runs more : List Run) → total_clusters (grown runs more) ≡ total_clusters runs + total_clusters more
unfolding grown
total-grown runs more =
    let t : ℕ = total_clusters runs in
    total-merged (runs ++ map (moved t) more) ∙ total-append runs (map (moved t) more) ∙ ap (λ (n : ℕ). t + n) (total-moved t more)

uses-grown : (runs more : List Run) (x : ℕ) → uses (grown runs more) x ≡ uses runs x + uses more x
unfolding grown
uses-grown runs more x =
    let t : ℕ = total_clusters runs in
    uses-merged (runs ++ map (moved t) more) x ∙ uses-append runs (map (moved t) more) x ∙ ap (λ (n : ℕ). uses runs x + n) (uses-moved t more x)

pub returns : goal.returns
returns c = record {
  total = total-grown;
  clusters = uses-grown;
  spelled = follow-grown;
  places = places-grown;
}
