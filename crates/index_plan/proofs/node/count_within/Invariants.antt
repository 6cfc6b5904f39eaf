use Rattle.std.proofs.Common.{◌≡◌, ◌+◌, drop}
use Rattle.index_plan.specs.Growth.{within}
use Rattle.index_plan.proofs.node.count_within.Given as goal

abbrev pub invariant-loop-i : goal.invariant-loop-i
invariant-loop-i l = within l.initial.left l.entries ≡ l.i + within l.left (drop l.i l.entries)
