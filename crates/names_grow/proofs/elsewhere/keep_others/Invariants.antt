use Rattle.std.proofs.Common.{take}
use Rattle.names_grow.specs.Trying.{LeaveOthers}
use Rattle.names_grow.proofs.elsewhere.keep_others.Given as goal

abbrev pub invariant-loop-at : goal.invariant-loop-at
invariant-loop-at l = LeaveOthers l.number l.count l.records (take l.at l.changes)
