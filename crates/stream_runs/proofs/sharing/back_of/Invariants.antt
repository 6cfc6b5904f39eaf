use Rattle.std.proofs.Common.{◌≡◌, [], drop}
use Rattle.stream_runs.specs.Runs.{back}
use Rattle.stream_runs.proofs.sharing.back_of.Given as goal

-- what is left has behind it what all have
abbrev pub invariant-loop-i : goal.invariant-loop-i
invariant-loop-i l = record {
  none : l.rest.items ≡ [];
  runs : back l.left (drop l.i l.runs) ≡ back l.clusters l.runs;
}
