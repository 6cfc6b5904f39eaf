use Rattle.grown_tables.proofs.Growing.{takes_little}
use Rattle.grown_tables.proofs.laws.table_takes_little.Goals as goal

pub returns : goal.returns
returns c = takes_little
