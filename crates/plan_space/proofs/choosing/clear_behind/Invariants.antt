use Rattle.std.proofs.Common.{◌+◌, ◌-◌, ◌≤◌}
use Rattle.space_model.specs.bit_set.Bits.{IsClearRun}
use Rattle.plan_space.proofs.choosing.clear_behind.Given as goal

abbrev pub invariant-loop-count : goal.invariant-loop-count
invariant-loop-count g l = record {
  few : l.count ≤ l.most;
  clear : IsClearRun (g.B.FreeBits.bits l.bits) (l.last + 1) l.count;
}

abbrev pub decreases-loop-count : goal.decreases-loop-count
decreases-loop-count g l = l.most - l.count
