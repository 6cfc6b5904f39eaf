use Rattle.put_checks.proofs.Rows.{met}
use Rattle.put_checks.proofs.laws.checks_are_met.Goals as goal

pub returns : goal.returns
returns c = met
