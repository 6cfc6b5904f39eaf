use Rattle.std.proofs.Common.{◌≡◌, ℕ, ◌≤◌, List, refl, sym, subst, ◌∙◌, arith}
use Rattle.tree_model.specs.declared.script.Command.{Command}
use Rattle.tree_model.specs.Steps.{OnlyLooks, AllLook}
use Rattle.serial_run.proofs.RunSteps.{one_more, none_yet, same_follows}
use Rattle.serial_run.proofs.running.serial_run.Goals as goal

pub loop-command-init : goal.loop-command-init
loop-command-init g c = (rw c.new-turns.ensures.items (none_yet _ _ _ _ _ _ _), refl, refl, refl, omega arith)

pub loop-command-preserved : goal.loop-command-preserved
loop-command-preserved g c =
    let inv = c.loop-command.invariant in
    let same = c.take_turn.ensures.same in (
      one_more _ _ _ _ _ _ _ _ _ _ _ c.command-item.result c.loop-command.turns.items c.take_turn.new.turns.items c.requires.next c.loop-command-test.true c.command-item.is inv.0
          (same_follows _ _ _ _ _ _ _ _ _ _ _ _ _ inv.1 inv.2 c.in_ok-take_turn.ensures.turn),
      same.0 ∙ inv.1,
      same.1 ∙ inv.2,
      same.2 ∙ inv.3,
      omega (arith, inv.4, c.take_turn.ensures.later),
    )

pub take_turn-requires : goal.take_turn-requires
take_turn-requires g c =
    subst (λ (x : Command). OnlyLooks x.what) (sym c.command-item.is)
    ((subst (λ (commands : List Command). AllLook commands) (sym c.as_slice-command-items.ensures) c.requires.looks) c.loop-command.command-index c.command-item.result c.loop-command-test.true)
