use Rattle.std.proofs.Common.{ap, sym, ◌∙◌}
use Rattle.host_base.proofs.Known.{always}
use Rattle.log_reading.specs.fixup_record.Spellings.{has_spelling}
use Rattle.log_recovery.proofs.Refusing.{bars_spelled}
use Rattle.log_recovery.proofs.barring.is_barred.Goals as goal

pub returns-then-has_spelling-clause-barred : goal.returns-then-has_spelling-clause-barred
returns-then-has_spelling-clause-barred g c =
    let made = c.args.made.now in
    λ such stand. always (g.V.View.content c.args.view.now) _
    (λ d. c.is_met.ensures such stand ∙ bars_spelled such d made.block made.body (ap (has_spelling made.block.kind) (sym c.bytes.ensures) ∙ sym c.has_spelling.ensures.value ∙ c.if-has_spelling.true))
