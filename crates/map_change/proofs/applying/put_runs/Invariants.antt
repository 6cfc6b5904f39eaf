use Rattle.std.proofs.Common.{◌≡◌, vec_len}
use Rattle.map_change.specs.Applying.{runs_put}
use Rattle.map_change.proofs.applying.put_runs.Given as goal

abbrev pub invariant-loop-run : goal.invariant-loop-run
invariant-loop-run l = runs_put l.runs.items l.bits ≡ runs_put l.initial.runs.items l.initial.bits

abbrev pub decreases-loop-run : goal.decreases-loop-run
decreases-loop-run l = vec_len l.runs
