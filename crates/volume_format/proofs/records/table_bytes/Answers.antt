use Rattle.std.proofs.Common.{ℕ, rules, arith, length-append}
use Rattle.volume_format.specs.Files.{table_bytes}
use Rattle.volume_format.proofs.Placing.{table_more}
use Rattle.volume_format.proofs.records.table_bytes.Goals as goal

pub loop-number-init : goal.loop-number-init
unfolding table_bytes
loop-number-init c = search rules

pub loop-number-preserved : goal.loop-number-preserved
loop-number-preserved c = record {
  value = let e = table_more c.args.v c.args.time c.loop-number.number in grind (arith, e);
  size = grind (arith, length-append {A = ℕ});
}
