use Rattle.upcase_order.proofs.NameLaws.{same_upper, upper_same}
use Rattle.upcase_order.proofs.laws.same_have_equal_upper_units.Goals as goal

pub returns : goal.returns
returns c = λ table a b. (same_upper table a b, upper_same table a b)
