use Rattle.std.proofs.Common.{◌≡◌, ◌+◌, drop}
use Rattle.index_plan.specs.Reading.{first_stop}
use Rattle.index_plan.proofs.descent.stop.Given as goal

abbrev pub invariant-loop-i : goal.invariant-loop-i
invariant-loop-i g l = first_stop (g.T.Test.goes l.test) l.entries ≡ l.i + first_stop (g.T.Test.goes l.test) (drop l.i l.entries)
