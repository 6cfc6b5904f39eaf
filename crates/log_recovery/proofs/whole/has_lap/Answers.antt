use Rattle.std.proofs.Common.{arith}
use Rattle.log_recovery.proofs.Wholes.{no_lap}
use Rattle.log_recovery.proofs.whole.has_lap.Goals as goal

pub returns-in-None-clause-value : goal.returns-in-None-clause-value
returns-in-None-clause-value c = no_lap c.args.pages c.args.last (omega (arith, c.in-None.ensures))
