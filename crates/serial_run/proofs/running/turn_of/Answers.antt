use Rattle.std.proofs.Common.{ℕ, refl, subst}
use Rattle.std.specs.Prelude.{IfSome}
use Rattle.tree_model.specs.declared.script.Op.{Op}
use Rattle.tree_model.specs.Steps.{IsStep}
use Rattle.serial_run.proofs.running.turn_of.Goals as goal

pub returns-clause-turn : goal.returns-clause-turn
returns-clause-turn g c = record {
  client = refl;
  number = refl;
  place = refl;
  usn = refl;
  time = c.moment.ensures;
  first = c.faults-faults_before.ensures;
  last = c.faults.ensures;
  asked = c.in_ok-op.ensures;
  looks = c.requires.looks;
  step = subst (λ (o : Op). IfSome (g.V.AskedVolume.tree c.args.volume.now) (λ x. (stamp : ℕ) → IsStep (g.V.AskedVolume.upper c.args.volume.now) o stamp c.answer-reply.result x x)) c.in_ok-op.ensures c.answer-reply.ensures.step;
  told = c.answer-reply.ensures.leaves.told;
}
