-- The order of lines is total.
use Rattle.std.specs.Cmp.{IsTotalOrder}
use Rattle.std.proofs.lemmas.Cmp.{nat_cmp_total, on_total, then_total}
use Rattle.run_model.specs.Texts.{Line, line_order}

pub line_order_total : IsTotalOrder line_order
line_order_total = then_total (on_total (λ (l : Line). l.client) nat_cmp_total) (on_total (λ (l : Line). l.number) nat_cmp_total)
