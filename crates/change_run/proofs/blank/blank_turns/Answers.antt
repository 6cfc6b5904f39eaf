use Rattle.std.proofs.Common.{◌≡◌, subst, ℕ, ◌+◌, List, length, sym}
use Rattle.tree_model.specs.declared.script.Command.{Command}
use Rattle.run_model.specs.declared.turn.Turn.{Turn}
use Rattle.script_text.specs.Asking.{IsAsked, AllAsked}
use Rattle.change_run.specs.Turns.{IsBlank}
use Rattle.change_run.proofs.Blanks.{AreBlankTo, blank_more, all_blank}
use Rattle.change_run.proofs.blank.blank_turns.Goals as goal

pub add_turn-requires : goal.add_turn-requires
add_turn-requires c = record {
  asked = subst (λ (x : Command). IsAsked x.what) (sym c.command-item.is)
      ((subst AllAsked (sym c.as_slice-command-items.ensures) c.requires.asked) c.loop-command.command-index c.command-item.result c.loop-command-test.true);
}

pub loop-command-preserved : goal.loop-command-preserved
loop-command-preserved c =
    let inv = c.loop-command.invariant in
    let added = c.in_ok-add_turn.ensures in
    let one = subst (λ (n : ℕ). IsBlank c.command-item.result (n + 1) added.0) inv.0 added.1 in
    let more = blank_more c.as_slice-command-items.result.now c.loop-command.turns.items c.loop-command.command-index c.command-item.result added.0 inv.0 c.loop-command-test.true inv.1 (subst (λ (x : Command). IsBlank x (c.loop-command.command-index + 1) added.0) c.command-item.is one) in
    subst (λ (xs : List Turn). (length xs ≡ c.loop-command.command-index + 1) × AreBlankTo (c.loop-command.command-index + 1) c.as_slice-command-items.result.now xs) (sym added.2) more

pub returns : goal.returns
returns c =
    let inv = c.loop-command.invariant in
    all_blank c.args.script.now c.as_slice-command-items.result.now c.loop-command.turns.items c.loop-command.command-index c.as_slice-command-items.ensures c.loop-command.auto.command-index-end c.loop-command-test.false inv.0 inv.1
