use Rattle.std.proofs.Common.{get_or, inl, inr, arith}
use Rattle.std.proofs.lemmas.Bool.{ltb-true}
use Rattle.store_images.proofs.Beside.{lone}
use Rattle.store_images.proofs.conditions.is_beside.Goals as goal

pub returns-then-end-run : goal.returns-then-end-run
returns-then-end-run c = λ behind. record {
  run = get_or c.args.runs.now 0 (record { first = 0; sectors = 0 });
  one = lone (record { first = 0; sectors = 0 }) c.args.runs.now (omega (arith, c.in-len1.len_at_least)) (omega (arith, c.in-len1.len_below));
  above = c.if-block-ge8.true;
  away = inl (omega (arith, c.saturating_add-end.ensures, c.sectors.ensures, c.if-end-run.true));
}

pub returns-else-end-run : goal.returns-else-end-run
returns-else-end-run c = λ behind. record {
  run = get_or c.args.runs.now 0 (record { first = 0; sectors = 0 });
  one = lone (record { first = 0; sectors = 0 }) c.args.runs.now (omega (arith, c.in-len1.len_at_least)) (omega (arith, c.in-len1.len_below));
  above = c.if-block-ge8.true;
  away = inr (let lt = ltb-true c.saturating_add-behind.result c.args.block.first behind in omega (arith, c.saturating_add-behind.ensures, c.saturating_add.ensures, lt));
}
