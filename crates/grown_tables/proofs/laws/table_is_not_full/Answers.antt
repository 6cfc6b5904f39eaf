use Rattle.grown_tables.proofs.Growing.{not_full_then}
use Rattle.grown_tables.proofs.laws.table_is_not_full.Goals as goal

pub returns : goal.returns
returns c = not_full_then
