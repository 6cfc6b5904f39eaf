use Rattle.plan_table.proofs.Grown.{table_grows}
use Rattle.plan_table.proofs.laws.table_is_grown.Goals as goal

pub returns : goal.returns
returns c = table_grows
