use Rattle.std.proofs.lemmas.Result.{err_from_is_err_and}
use Rattle.map_change.proofs.Prepared.{load_fails, load_answers}
use Rattle.map_change.proofs.loading.load_live.Goals as goal

pub returns-in_err-map-clause-answer : goal.returns-in_err-map-clause-answer
returns-in_err-map-clause-answer g c =
    let p = err_from_is_err_and c.from_residual.result c.from_residual.ensures.1 in
    rw (p.1, p.2) (load_fails _ c.args.geometry.now c.args.clusters _ c.in_err-map.ensures.answer)

pub returns-clause-answer : goal.returns-clause-answer
returns-clause-answer g c = load_answers _ c.args.geometry.now c.args.clusters c.in_ok-map.map c.in_ok-map.ensures.answer c.in_ok-map.ensures.parts
