use Rattle.tree_laws.proofs.Standing.{leaf_2, leaf_8, leaf_3, leaf_kind, leaf_node, leaf_nodes, same_entry, no_journal, leaf_journal}
use Rattle.tree_laws.proofs.laws.leaf_replaced.Goals as goal

pub returns : goal.returns
returns c = record { directories = leaf_2; way_up = leaf_8; index = leaf_3; kind = leaf_kind; node = leaf_node; nodes = leaf_nodes; entry = same_entry; no_journal = no_journal; journal = leaf_journal }
