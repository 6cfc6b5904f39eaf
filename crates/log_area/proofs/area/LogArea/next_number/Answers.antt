use Rattle.std.proofs.Common.{arith}
use Rattle.log_area.proofs.Numbering.{sealed_fits}
use Rattle.log_area.proofs.area.LogArea.next_number.Goals as goal

pub overflow_add-result : goal.overflow_add-result
overflow_add-result c = let few = sealed_fits _ c.self.invariant.0 in omega arith
