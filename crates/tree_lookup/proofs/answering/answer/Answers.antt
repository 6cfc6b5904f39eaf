use Rattle.tree_lookup.proofs.Replying.{step_known}
use Rattle.tree_lookup.proofs.answering.answer.Goals as goal

pub returns-in-Ok-clause-step : goal.returns-in-Ok-clause-step
returns-in-Ok-clause-step g c = step_known (g.L.Lookup.tree c.args.tree.now) (g.L.Lookup.upper c.args.tree.now) c.args.op.now c.in-Ok.reply c.requires.looks c.in-Ok.ensures.given c.in-Ok.ensures.value
