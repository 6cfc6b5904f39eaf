use Rattle.upcase_order.proofs.NameLaws.{together}
use Rattle.upcase_order.proofs.laws.same_stand_together.Goals as goal

pub returns : goal.returns
returns c = together
