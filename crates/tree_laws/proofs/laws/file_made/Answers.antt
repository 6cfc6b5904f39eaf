use Rattle.tree_laws.proofs.Standing.{made_links, made_nodes}
use Rattle.tree_laws.proofs.laws.file_made.Goals as goal

pub returns : goal.returns
returns c = record { links = made_links; nodes = made_nodes }
