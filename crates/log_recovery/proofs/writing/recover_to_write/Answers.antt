use Rattle.std.proofs.lemmas.Result.{err_from_is_err_and}
use Rattle.log_recovery.proofs.Refusing.{to_write_known, refused_known}
use Rattle.log_recovery.proofs.writing.recover_to_write.Goals as goal

pub returns-in_err-found-clause-answer : goal.returns-in_err-found-clause-answer
returns-in_err-found-clause-answer g c =
    let p = err_from_is_err_and c.from_residual.result c.from_residual.ensures.1 in
    rw (p.1, p.2) (refused_known (g.V.View.content c.args.view.now) c.args.place.now c.args.kept.now _ c.in_err-found.ensures.answer)

pub returns-clause-answer : goal.returns-clause-answer
returns-clause-answer g c =
    to_write_known (g.V.View.content c.args.view.now) c.args.place.now c.args.kept.now c.in_ok-found.found c.in_ok-met.met c.unless_met.result c.in_ok-found.ensures.answer
    (rw (c.in_ok-found.ensures.kept.same) at (rw c.deref.ensures.value at c.in_ok-met.ensures.barred)) c.unless_met.ensures.answer c.unless_met.ensures.written
