use Rattle.table_steps.proofs.Refused.{refused}
use Rattle.table_steps.proofs.laws.table_is_refused.Goals as goal

pub returns : goal.returns
returns c = refused
