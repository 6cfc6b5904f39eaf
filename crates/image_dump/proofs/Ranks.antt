-- The orders of nodes and of links, and of references to them.
use Rattle.std.proofs.Common.{Bool}
use Rattle.std.specs.Borrow.{Bor}
use Rattle.std.specs.Cmp.{IsTotalOrder, IsStrictWeakOrder}
use Rattle.std.proofs.lemmas.Cmp.{nat_cmp_total, nat_list_cmp_total, on_total, then_total}
use Rattle.std.proofs.lemmas.List.MinMax.{ranks_by}
use Rattle.file_tree.specs.declared.node.Node.{Node}
use Rattle.file_tree.specs.declared.link.Link.{Link}
use Rattle.image_dump.specs.Order.{node_order, link_order, is_node_before, stands_before}

node_order_total : IsTotalOrder node_order
node_order_total = on_total (λ (n : Node). n.number) nat_cmp_total

link_order_total : IsTotalOrder link_order
link_order_total = then_total (on_total (λ (l : Link). l.child.number) nat_cmp_total) (then_total (on_total (λ (l : Link). l.parent.number) nat_cmp_total) (on_total (λ (l : Link). l.name) nat_list_cmp_total))

pub nodes_rank : IsStrictWeakOrder is_node_before
nodes_rank = ranks_by node_order_total (λ (n : Node). n)

pub links_rank : IsStrictWeakOrder stands_before
links_rank = ranks_by link_order_total (λ (l : Link). l)

abbrev pub is_node_shown_before : Bor Node → Bor Node → Bool
is_node_shown_before a b = is_node_before a.now b.now

pub shown_nodes_rank : IsStrictWeakOrder is_node_shown_before
shown_nodes_rank = ranks_by node_order_total (λ (n : Bor Node). n.now)

abbrev pub is_link_shown_before : Bor Link → Bor Link → Bool
is_link_shown_before a b = stands_before a.now b.now

pub shown_links_rank : IsStrictWeakOrder is_link_shown_before
shown_links_rank = ranks_by link_order_total (λ (l : Bor Link). l.now)
