use Rattle.std.proofs.Common.{ℕ, List, [], Option, subst}
use Rattle.std.specs.Prelude.{IfSome, string_bytes}
use Rattle.run_model.specs.declared.turn.Turn.{Turn}
use Rattle.run_model.specs.Texts.{IsRunText}
use Rattle.serial_run.specs.Runs.{IsRunOf}
use Rattle.volume_mount.specs.Trees.{tree_shown}
use Rattle.volume_run.proofs.Printed.{run_is}
use Rattle.volume_run.proofs.running.run_text.Goals as goal

pub returns-clause-answer : goal.returns-clause-answer
returns-clause-answer g c =
    run_is (g.D.Device.gives c.args.device.now) c.in_ok-mounted.mounted c.args.script.now c.args.time _ (g.D.Device.fault_count c.mount.new.device) _ c.in_ok-turns.turns.items _ c.in_ok-mounted.ensures.answer
    (subst (λ (gives : Option (List (List ℕ))). IfSome (tree_shown c.in_ok-mounted.mounted gives) (λ t. IsRunOf c.in_ok-mounted.mounted.upper t c.args.script.now c.args.time (g.D.Device.fault_count c.mount.new.device) c.in_ok-turns.turns.items)) c.in_ok-mounted.ensures.kept.same c.in_ok-turns.ensures.run)
    c.in_ok-turns.ensures.turns
    (subst (λ (turns : List Turn). IsRunText turns [] (string_bytes c.in_ok-text_of.field-0)) c.deref.ensures.value c.in_ok-text_of.ensures)
    c.in_ok-mounted.ensures.kept.later c.in_ok-mounted.ensures.counted
