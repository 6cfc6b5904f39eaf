use Rattle.put_checks.proofs.Rows.{enough}
use Rattle.put_checks.proofs.laws.checks_are_enough.Goals as goal

pub returns : goal.returns
returns c = enough
