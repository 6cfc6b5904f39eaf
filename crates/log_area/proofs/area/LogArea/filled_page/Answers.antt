use Rattle.std.proofs.Common.{arith}
use Rattle.log_area.proofs.Numbering.{sealed_fits}
use Rattle.log_area.proofs.area.LogArea.filled_page.Goals as goal

pub returns-clause-small : goal.returns-clause-small
returns-clause-small c = let few = sealed_fits _ c.self.invariant.0 in omega arith
