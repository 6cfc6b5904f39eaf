use Rattle.tree_laws.proofs.Standing.{gone_links, gone_nodes}
use Rattle.tree_laws.proofs.laws.file_gone.Goals as goal

pub returns : goal.returns
returns c = record { links = gone_links; nodes = gone_nodes }
