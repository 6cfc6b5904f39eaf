use Rattle.grown_tables.proofs.First.{is_ready}
use Rattle.grown_tables.proofs.laws.table_is_ready.Goals as goal

pub returns : goal.returns
returns c = is_ready
