use Rattle.std.proofs.Common.{sym}
use Rattle.plan_draft.proofs.Placing.{found_stands}
use Rattle.plan_draft.proofs.order.find.Goals as goal

pub returns-in-Ok-clause-value : goal.returns-in-Ok-clause-value
returns-in-Ok-clause-value c = sym (found_stands c.args.touched.now c.args.block c.in-Ok.at c.index-touched-at.result c.in-Ok.ensures c.index-touched-at.is)
