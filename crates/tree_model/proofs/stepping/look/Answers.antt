use Rattle.tree_model.proofs.Looks.{look_is_step}
use Rattle.tree_model.proofs.stepping.look.Goals as goal

pub returns-in_ok-clone-in_default : goal.returns-in_ok-clone-in_default
returns-in_ok-clone-in_default c = record {
  value = rw c.in_ok-clone-in_default.ensures (look_is_step c.args.upper.now c.args.op.now c.args.stamp c.answer.result c.args.tree.now c.requires.looks c.answer.ensures.value c.answer.ensures.fault);
  given = (c.in_default.not-Memory, c.answer.ensures.fault);
}
