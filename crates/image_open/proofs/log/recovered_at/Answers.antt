use Rattle.std.proofs.lemmas.Result.{err_from_is_err_and}
use Rattle.disk_model.specs.Content.{Content}
use Rattle.image_open.proofs.Steps.{log_error, log_value, log_found}
use Rattle.image_open.proofs.log.recovered_at.Goals as goal

pub returns-in_err-found-clause-answer : goal.returns-in_err-found-clause-answer
returns-in_err-found-clause-answer g c =
    let p = err_from_is_err_and c.from_residual.result c.from_residual.ensures.1 in
    rw p.1 (log_error _ (λ (content : Content). content) c.args.place.now _ _ p.2 c.in_err-found.ensures.answer)

pub returns-clause-answer : goal.returns-clause-answer
returns-clause-answer g c = log_value _ c.args.place.now c.in_ok-found.found c.in_ok-found.ensures.answer

pub returns-clause-found : goal.returns-clause-found
returns-clause-found g c = log_found _ c.args.place.now c.in_ok-found.found c.in_ok-found.ensures.answer
