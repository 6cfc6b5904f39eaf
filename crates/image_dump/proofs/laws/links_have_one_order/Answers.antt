use Rattle.std.proofs.Common.{List, sym, subst}
use Rattle.file_tree.specs.declared.link.Link.{Link}
use Rattle.image_dump.specs.Order.{stands_before, IsInOrder}
use Rattle.image_dump.proofs.InOrder.{only_order, order_of}
use Rattle.image_dump.proofs.Ranks.{links_rank}
use Rattle.image_dump.proofs.laws.links_have_one_order.Goals as goal

pub returns : goal.returns
returns c = λ links order. (
  λ o. only_order stands_before links_rank links order o.sorted o.ties,
  λ e. subst (λ (l : List Link). IsInOrder stands_before links l) (sym e) (order_of stands_before links_rank links),
)
