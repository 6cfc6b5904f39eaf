use Rattle.std.proofs.Common.{arith}
use Rattle.log_area.proofs.Numbering.{sealed_fits}
use Rattle.log_area.proofs.Keeping.{seal_keeps}
use Rattle.log_area.proofs.area.LogArea.seal.Goals as goal

pub overflow_add-self : goal.overflow_add-self
overflow_add-self c = let few = sealed_fits _ c.self.invariant.0 in omega arith

pub invariant_of-self : goal.invariant_of-self
invariant_of-self c = (seal_keeps _ c.self.invariant.0 cc, c.self.invariant.1)
