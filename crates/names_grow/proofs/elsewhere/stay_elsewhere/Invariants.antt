use Rattle.std.proofs.Common.{ℕ, ◌<◌}
use Rattle.names_grow.specs.Trying.{StaysAt}
use Rattle.names_grow.proofs.elsewhere.stay_elsewhere.Given as goal

abbrev pub invariant-loop-at : goal.invariant-loop-at
invariant-loop-at l = (k : ℕ) → k < l.at → StaysAt l.number l.records l.others k
