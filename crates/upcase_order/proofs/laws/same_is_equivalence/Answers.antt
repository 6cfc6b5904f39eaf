use Rattle.upcase_order.proofs.NameLaws.{same_equiv}
use Rattle.upcase_order.proofs.laws.same_is_equivalence.Goals as goal

pub returns : goal.returns
returns c = same_equiv
