use Rattle.std.proofs.Common.{ap, ◌∙◌, length, slice_index}
use Rattle.upcase_order.proofs.Units.{length-standard_units, get-standard_units, standard_table-is}
use Rattle.upcase_order.proofs.laws.standard_table_gives.Goals as goal

pub returns : goal.returns
returns c = record {
  size = ap length standard_table-is ∙ length-standard_units 65536;
  gives = λ unit lt. ap (λ table. slice_index table unit) standard_table-is ∙ get-standard_units 65536 unit lt;
}
