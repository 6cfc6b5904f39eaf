use Rattle.std.proofs.Common.{ap, rules}
use Rattle.std.specs.Borrow.{Bor}
use Rattle.std.specs.Ordering.{is_lt}
use Rattle.std.proofs.lemmas.List.Sorted.{answers_always}
use Rattle.std.proofs.lemmas.Result.{on_ok_weaker}
use Rattle.file_tree.specs.declared.link.Link.{Link}
use Rattle.image_dump.specs.Order.{stands_before}
use Rattle.image_dump.proofs.InOrder.{shown_order}
use Rattle.image_dump.proofs.Ranks.{is_link_shown_before, shown_links_rank}
use Rattle.image_dump.proofs.order.sort_links.Goals as goal

pub returns : goal.returns
returns c = on_ok_weaker c.sort_by.result (λ sorted.
    shown_order (λ (l : Bor Link). l.now) stands_before shown_links_rank c.args.links.now.items c.sort_by.new.self.items
    (sorted is_link_shown_before shown_links_rank (answers_always _ _ _ (λ f a r k called. ap is_lt (search rules))))
    (c.sort_by.ensures.stable is_link_shown_before shown_links_rank (answers_always _ _ _ (λ f a r k called. ap is_lt (search rules)))))
    c.sort_by.ensures.sorted
