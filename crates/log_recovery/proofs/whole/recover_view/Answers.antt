use Rattle.std.proofs.lemmas.Result.{err_from_is_err_and}
use Rattle.log_recovery.proofs.Wholes.{forgets_known}
use Rattle.log_recovery.proofs.whole.recover_view.Goals as goal

pub returns-in_err-found-clause-answer : goal.returns-in_err-found-clause-answer
returns-in_err-found-clause-answer g c =
    let p = err_from_is_err_and c.from_residual.result c.from_residual.ensures.1 in
    rw (p.1, p.2) c.in_err-found.ensures.answer

pub returns-clause-answer : goal.returns-clause-answer
returns-clause-answer g c = forgets_known (g.V.View.content c.args.view.now) c.args.place.now c.in_ok-found.found c.in_ok-found.ensures.answer
