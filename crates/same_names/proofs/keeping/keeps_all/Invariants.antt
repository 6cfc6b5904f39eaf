use Rattle.std.proofs.Common.{take}
use Rattle.same_names.specs.Keeping.{LeaveNamed}
use Rattle.same_names.proofs.keeping.keeps_all.Given as goal

abbrev pub invariant-loop-at : goal.invariant-loop-at
invariant-loop-at l = LeaveNamed l.records (take l.at l.changes)
