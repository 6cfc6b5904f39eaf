-- What holds of the orders in which nodes and links are printed.
use Rattle.std.specs.Prelude.{◌≡◌, ◌↔◌, List}
use Rattle.file_tree.specs.declared.node.Node.{Node}
use Rattle.file_tree.specs.declared.link.Link.{Link}
use Rattle.image_dump.specs.Order.{IsInOrder, in_order, is_node_before, stands_before}

-- the nodes in order are the one list of these nodes that is sorted and keeps what ties as it stands
abbrev pub NodesHaveOneOrder : Type 0
NodesHaveOneOrder = (nodes order : List Node) → IsInOrder is_node_before nodes order ↔ (order ≡ in_order is_node_before nodes)

-- the same of links
abbrev pub LinksHaveOneOrder : Type 0
LinksHaveOneOrder = (links order : List Link) → IsInOrder stands_before links order ↔ (order ≡ in_order stands_before links)
