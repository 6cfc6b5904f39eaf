use Rattle.std.proofs.Common.{◌-◌, ◌≤◌}
use Rattle.draft_bits.specs.Filling.{FillsBytes}
use Rattle.draft_bits.proofs.bytes.fill_bits.Given as goal

abbrev pub invariant-loop-at : goal.invariant-loop-at
invariant-loop-at l = record {
  order : l.first ≤ l.at;
  within : l.at ≤ l.end;
  filled : FillsBytes l.initial.bytes l.bytes l.first l.at l.value;
}

abbrev pub decreases-loop-at : goal.decreases-loop-at
decreases-loop-at l = l.end - l.at
