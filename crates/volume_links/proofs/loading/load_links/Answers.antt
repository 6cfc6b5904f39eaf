use Rattle.std.proofs.lemmas.Result.{err_from_is_err_and}
use Rattle.volume_links.proofs.Scanned.{links_fail, links_go_on}
use Rattle.volume_links.proofs.loading.load_links.Goals as goal

pub returns-in_err-extents-clause-answer : goal.returns-in_err-extents-clause-answer
returns-in_err-extents-clause-answer g c =
    let p = err_from_is_err_and c.from_residual-in_err-extents.result c.from_residual-in_err-extents.ensures.1 in
    rw (p.1, p.2) (links_fail _ c.args.geometry.now _ c.in_err-extents.ensures.answer)

pub returns-clause-answer : goal.returns-clause-answer
returns-clause-answer g c = links_go_on _ _ c.args.geometry.now c.in_ok-extents.extents c.links_in.result c.in_ok-extents.ensures.answer (rw c.in_ok-extents.ensures.kept.same at c.links_in.ensures.answer)
