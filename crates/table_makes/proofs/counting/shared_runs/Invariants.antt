use Rattle.std.proofs.Common.{◌≡◌, ◌-◌, ◌≤◌, take, length}
use Rattle.table_makes.proofs.counting.shared_runs.Given as goal

abbrev pub invariant-loop-at : goal.invariant-loop-at
invariant-loop-at l = record {
  front : take l.at l.new ≡ take l.at l.old;
  old : l.at ≤ length l.old;
  new : l.at ≤ length l.new;
}

abbrev pub decreases-loop-at : goal.decreases-loop-at
decreases-loop-at l = length l.old - l.at
