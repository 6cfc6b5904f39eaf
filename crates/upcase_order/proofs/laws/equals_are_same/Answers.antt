use Rattle.upcase_order.proofs.NameLaws.{equal_same}
use Rattle.upcase_order.proofs.laws.equals_are_same.Goals as goal

pub returns : goal.returns
returns c = equal_same
