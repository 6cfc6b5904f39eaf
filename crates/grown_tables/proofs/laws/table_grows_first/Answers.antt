use Rattle.grown_tables.proofs.Growing.{grows_first}
use Rattle.grown_tables.proofs.laws.table_grows_first.Goals as goal

pub returns : goal.returns
returns c = grows_first
