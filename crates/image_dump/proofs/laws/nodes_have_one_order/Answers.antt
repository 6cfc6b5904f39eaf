use Rattle.std.proofs.Common.{List, sym, subst}
use Rattle.file_tree.specs.declared.node.Node.{Node}
use Rattle.image_dump.specs.Order.{is_node_before, IsInOrder}
use Rattle.image_dump.proofs.InOrder.{only_order, order_of}
use Rattle.image_dump.proofs.Ranks.{nodes_rank}
use Rattle.image_dump.proofs.laws.nodes_have_one_order.Goals as goal

pub returns : goal.returns
returns c = λ nodes order. (
  λ o. only_order is_node_before nodes_rank nodes order o.sorted o.ties,
  λ e. subst (λ (l : List Node). IsInOrder is_node_before nodes l) (sym e) (order_of is_node_before nodes_rank nodes),
)
