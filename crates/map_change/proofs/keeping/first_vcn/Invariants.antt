use Rattle.std.proofs.Common.{take}
use Rattle.map_change.specs.Touching.{NoneBelow}
use Rattle.map_change.proofs.keeping.first_vcn.Given as goal

abbrev pub invariant-loop-run : goal.invariant-loop-run
invariant-loop-run l = NoneBelow (take l.run-index l.runs) l.least
