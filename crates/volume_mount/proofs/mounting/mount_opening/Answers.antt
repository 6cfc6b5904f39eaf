use Rattle.std.proofs.lemmas.Result.{err_from_is_err_and}
use Rattle.volume_mount.proofs.Opened.{opening_fails, opening_is}
use Rattle.volume_mount.proofs.mounting.mount_opening.Goals as goal

pub returns-in_err-loaded-clause-answer : goal.returns-in_err-loaded-clause-answer
returns-in_err-loaded-clause-answer g c =
    let p = err_from_is_err_and c.from_residual-in_err-loaded.result c.from_residual-in_err-loaded.ensures.1 in
    rw (p.1, p.2) (opening_fails _ c.args.opening _ c.in_err-loaded.ensures.answer)

pub returns-clause-answer : goal.returns-clause-answer
returns-clause-answer g c = opening_is _ _ c.in_ok-loaded.ensures.answer c.in_ok-loaded.ensures.upper c.in_ok-loaded.ensures.parts
