use Rattle.index_model.proofs.file_tree.NameOrders.{name_order_total}
use Rattle.upcase_order.proofs.laws.order_is_total.Goals as goal

pub returns : goal.returns
returns c = name_order_total
