use Rattle.std.proofs.Common.{ap, rules}
use Rattle.std.specs.Borrow.{Bor}
use Rattle.std.specs.Ordering.{is_lt}
use Rattle.std.proofs.lemmas.List.Sorted.{answers_always}
use Rattle.std.proofs.lemmas.Result.{on_ok_weaker}
use Rattle.file_tree.specs.declared.node.Node.{Node}
use Rattle.image_dump.specs.Order.{is_node_before}
use Rattle.image_dump.proofs.InOrder.{shown_order}
use Rattle.image_dump.proofs.Ranks.{is_node_shown_before, shown_nodes_rank}
use Rattle.image_dump.proofs.order.sort_nodes.Goals as goal

pub returns : goal.returns
returns c = on_ok_weaker c.sort_by.result (λ sorted.
    shown_order (λ (n : Bor Node). n.now) is_node_before shown_nodes_rank c.args.nodes.now.items c.sort_by.new.self.items
    (sorted is_node_shown_before shown_nodes_rank (answers_always _ _ _ (λ f a r k called. ap is_lt (search rules))))
    (c.sort_by.ensures.stable is_node_shown_before shown_nodes_rank (answers_always _ _ _ (λ f a r k called. ap is_lt (search rules)))))
    c.sort_by.ensures.sorted
