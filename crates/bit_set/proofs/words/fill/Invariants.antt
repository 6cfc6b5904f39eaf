use Rattle.std.proofs.Common.{◌-◌, ◌≤◌}
use Rattle.bit_set.specs.Words.{FillsRun}
use Rattle.bit_set.proofs.words.fill.Given as goal

abbrev pub invariant-loop-at : goal.invariant-loop-at
invariant-loop-at l = record {
  order : l.first ≤ l.at;
  within : l.at ≤ l.end;
  filled : FillsRun l.initial.words l.words l.first l.at l.value;
}

abbrev pub decreases-loop-at : goal.decreases-loop-at
decreases-loop-at l = l.end - l.at
