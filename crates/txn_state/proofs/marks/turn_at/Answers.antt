use Rattle.std.proofs.Common.{◌≡◌, Option, ap, sym, ◌∙◌}
use Rattle.std.specs.Prelude.{unwrap_or}
use Rattle.txn_log.specs.store_pools.Pools.{marks_of}
use Rattle.txn_log.specs.txn_model.declared.mark.Mark.{Mark}
use Rattle.txn_log.specs.txn_model.Values.{no_mark}
use Rattle.txn_state.proofs.Turning.{turned_marks, turned_none}
use Rattle.txn_state.proofs.marks.turn_at.Goals as goal

pub returns-in-Some : goal.returns-in-Some
returns-in-Some g c =
    let turn = g.F.Turns.turned c.args.change.now in
    ap marks_of c.replace.ensures.new
    ∙ turned_marks turn c.args.block c.turn-mark.result c.args.marks.now (c.turn-mark.ensures ∙ ap turn (ap (λ (o : Option Mark). unwrap_or o no_mark) c.in-Some.ensures.value))

pub returns-in-None : goal.returns-in-None
returns-in-None g c =
    let turn = g.F.Turns.turned c.args.change.now in
    let clean : marks_of c.args.marks.now c.args.block ≡ no_mark = ap (λ (o : Option Mark). unwrap_or o no_mark) (sym c.in-None.ensures.value) in
    turned_none turn c.args.block (marks_of c.args.marks.now) (ap turn clean ∙ c.requires.clean ∙ sym clean)
