use Rattle.tree_laws.proofs.Climbing.{parent_everywhere, way_everywhere, inside_everywhere, system_everywhere, same_kind, node_elsewhere, node_replaced, nodes_replaced}
use Rattle.tree_laws.proofs.laws.node_replaced.Goals as goal

pub returns : goal.returns
returns c = record { parent = parent_everywhere; way_up = way_everywhere; in_system = inside_everywhere; of_system = system_everywhere; kind = same_kind; node = node_elsewhere; replaced = node_replaced; nodes = nodes_replaced }
