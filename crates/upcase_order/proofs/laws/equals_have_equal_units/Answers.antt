use Rattle.upcase_order.proofs.NameLaws.{equal_units, units_equal}
use Rattle.upcase_order.proofs.laws.equals_have_equal_units.Goals as goal

pub returns : goal.returns
returns c = λ table a b. (equal_units table a b, units_equal table a b)
