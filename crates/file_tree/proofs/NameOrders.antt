-- The order of names is total.
use Rattle.std.proofs.Common.{ℕ, List}
use Rattle.std.specs.Cmp.{IsTotalOrder}
use Rattle.std.proofs.lemmas.Cmp.{nat_list_cmp_total, on_total, then_total}
use Rattle.file_tree.specs.Names.{upper_units, name_order}

pub name_order_total : (upper : List ℕ) → IsTotalOrder (name_order upper)
unfolding name_order
name_order_total upper = then_total (on_total (upper_units upper) nat_list_cmp_total) nat_list_cmp_total
