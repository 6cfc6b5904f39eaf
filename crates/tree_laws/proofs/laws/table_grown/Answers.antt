use Rattle.tree_laws.proofs.Growing.{grown_holds, grown_count, grown_tree}
use Rattle.tree_laws.proofs.laws.table_grown.Goals as goal

pub returns : goal.returns
returns c = record { holds = grown_holds; count = grown_count; tree = grown_tree }
