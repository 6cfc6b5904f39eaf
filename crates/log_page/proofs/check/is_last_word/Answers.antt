use Rattle.std.proofs.Common.{sym, ◌∙◌, arith}
use Rattle.std.proofs.lemmas.Bool.{ne_eqb}
use Rattle.log_page.proofs.Words.{ends_none_more, ends_none_all, ends_one}
use Rattle.log_page.proofs.check.is_last_word.Goals as goal

pub returns-then-u16_at-word : goal.returns-then-u16_at-word
returns-then-u16_at-word c = record { value = sym (ends_one c.args.page.now c.args.word c.loop-sector.sector c.loop-sector-test.true (sym c.u16_at.ensures ∙ c.if-u16_at-word.true)) }

pub loop-sector-preserved : goal.loop-sector-preserved
loop-sector-preserved c =
    ends_none_more c.args.page.now c.args.word c.loop-sector.sector c.loop-sector.invariant (ne_eqb _ _ (λ e. c.if-u16_at-word.false (c.u16_at.ensures ∙ e)))

pub returns : goal.returns
returns c = record { value = sym (ends_none_all c.args.page.now c.args.word c.loop-sector.sector c.loop-sector.invariant (omega arith)) }
