use Rattle.std.proofs.Common.{sym, ◌∙◌, ◌≤◌, arith}
use Rattle.log_page.proofs.Words.{at_most_8, one_more}
use Rattle.log_page.proofs.check.pick_check.Goals as goal

pub loop-word-preserved : goal.loop-word-preserved
loop-word-preserved c =
    let all = one_more c.args.page.now c.loop-word.word c.loop-word.invariant.below (sym c.is_last_word.ensures.value ∙ c.loop-word-test.true) in
    let le : c.loop-word.word ≤ 8 = at_most_8 c.args.page.now c.loop-word.word c.requires all in
    record { some = omega arith; few = omega arith; below = λ w some lt. all w some (omega arith) }
