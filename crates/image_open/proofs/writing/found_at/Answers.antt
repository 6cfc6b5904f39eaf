use Rattle.std.proofs.lemmas.Result.{err_from_is_err_and}
use Rattle.image_open.proofs.ToWrite.{to_write_error, to_write_value}
use Rattle.image_open.proofs.writing.found_at.Goals as goal

pub returns-in_err-recover_to_write-clause-answer : goal.returns-in_err-recover_to_write-clause-answer
returns-in_err-recover_to_write-clause-answer g c =
    let p = err_from_is_err_and c.from_residual.result c.from_residual.ensures.1 in
    rw p.1 (to_write_error _ c.args.place.now c.args.kept.now _ _ p.2 c.in_err-recover_to_write.ensures.answer)

pub returns-clause-answer : goal.returns-clause-answer
returns-clause-answer g c = to_write_value _ c.args.place.now c.args.kept.now c.in_ok-recover_to_write.field-0 c.in_ok-recover_to_write.ensures.answer
