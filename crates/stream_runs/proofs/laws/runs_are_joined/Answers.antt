use Rattle.stream_runs.proofs.Merging.{total-merged, uses-merged, follow-merged, parted-merged}
use Rattle.stream_runs.proofs.Places.{places-merged}
use Rattle.stream_runs.proofs.laws.runs_are_joined.Goals as goal

pub returns : goal.returns
returns c = record {
  total = total-merged;
  clusters = uses-merged;
  spelled = λ first runs spelled. follow-merged first 0 runs spelled;
  places = places-merged;
  parted = parted-merged;
}
