use Rattle.tree_laws.proofs.Naming.{names_elsewhere, links_of_all, links_kept}
use Rattle.tree_laws.proofs.laws.links_replaced.Goals as goal

pub returns : goal.returns
returns c = record { elsewhere = names_elsewhere; all = links_of_all; kept = links_kept }
