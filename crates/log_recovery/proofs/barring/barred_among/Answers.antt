use Rattle.std.proofs.Common.{rules, List, subst, arith}
use Rattle.std.specs.Prelude.{IfSome}
use Rattle.std.proofs.lemmas.List.{take_all}
use Rattle.host_base.proofs.Known.{both}
use Rattle.log_recovery.specs.declared.found.RecoveredBlock.{RecoveredBlock}
use Rattle.log_recovery.specs.Writing.{is_barred_among, HasBarred}
use Rattle.log_recovery.proofs.Refusing.{barred_more}
use Rattle.log_recovery.proofs.barring.barred_among.Goals as goal

pub loop-made-preserved : goal.loop-made-preserved
loop-made-preserved g c = record {
  barred = λ such stand. both (g.V.View.content c.args.view.now) _ _ _
      (λ d so_far said. barred_more such d c.args.bodies.now c.loop-made.made-index c.made-item.result c.in_ok-barred.barred c.loop-made.met c.note.new.met c.loop-made-test.true c.made-item.is said c.in_ok-note.ensures so_far)
      (c.loop-made.invariant.barred such stand) (rw c.loop-made.invariant.kept.same at (c.in_ok-barred.ensures.barred such stand));
  kept = search rules;
  counted = search rules;
}

pub returns-clause-barred : goal.returns-clause-barred
returns-clause-barred g c = λ such stand.
    subst (λ (rs : List RecoveredBlock). IfSome (g.V.View.content c.args.view.now) (λ d. HasBarred (is_barred_among such d rs) c.loop-made.met)) (take_all c.loop-made.made-index c.args.bodies.now (omega arith)) (c.loop-made.invariant.barred such stand)
