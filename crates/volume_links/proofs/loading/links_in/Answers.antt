use Rattle.std.proofs.lemmas.Result.{err_from_is_err_and}
use Rattle.volume_links.proofs.Scanned.{scan_fails, scan_answers}
use Rattle.volume_links.proofs.loading.links_in.Goals as goal

pub returns-in_err-scan-clause-answer : goal.returns-in_err-scan-clause-answer
returns-in_err-scan-clause-answer g c =
    let p = err_from_is_err_and c.from_residual.result c.from_residual.ensures.1 in
    rw (p.1, p.2) (scan_fails _ c.args.per c.args.extents.now c.has_cut_block-cut.result _ c.in_err-scan.ensures.answer)

pub returns-in-Some-clause-answer : goal.returns-in-Some-clause-answer
returns-in-Some-clause-answer g c =
    scan_answers _ _ c.args.per c.args.extents.now c.has_cut_block-cut.result c.in-Some.scan c.scanned.result (rw (← c.as_slice-runs.ensures.value) c.has_cut_block-cut.ensures) (rw c.in-Some.is at c.in_ok-scan.ensures.answer) c.scanned.ensures
