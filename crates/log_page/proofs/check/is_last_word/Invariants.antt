use Rattle.log_page.proofs.Words.{EndsNone}
use Rattle.log_page.proofs.check.is_last_word.Given as goal

abbrev pub invariant-loop-sector : goal.invariant-loop-sector
invariant-loop-sector l = EndsNone l.page l.word l.sector
