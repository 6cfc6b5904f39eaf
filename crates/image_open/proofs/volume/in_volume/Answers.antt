use Rattle.std.proofs.lemmas.Result.{err_from_is_err_and}
use Rattle.image_open.specs.Volumes.{Opened, opened_in}
use Rattle.image_open.specs.Openings.{opened_as}
use Rattle.image_open.proofs.Steps.{fails_first, goes_on_by}
use Rattle.image_open.proofs.volume.in_volume.Goals as goal

pub returns-in_err-opening-clause-answer : goal.returns-in_err-opening-clause-answer
returns-in_err-opening-clause-answer g c =
    let p = err_from_is_err_and c.from_residual.result c.from_residual.ensures.1 in
    rw (p.1, p.2) (fails_first _ (λ (o : Opened). o) g.R.VolumeReader.shown _ (λ content. opened_in content c.args.sectors) (λ _ o. g.R.VolumeReader.meant c.args.reader.now o.content o.geometry o.total) c.in_err-opening.ensures.answer)

pub returns-clause-answer : goal.returns-clause-answer
returns-clause-answer g c =
    goes_on_by _ g.R.VolumeReader.shown (λ content. opened_as content c.in_ok-opening.opening) c.read_opening.result (λ content. opened_in content c.args.sectors) (λ _ o. g.R.VolumeReader.meant c.args.reader.now o.content o.geometry o.total)
    c.in_ok-opening.ensures.answer (rw c.in_ok-opening.ensures.kept.same at c.read_opening.ensures.answer)
