use Rattle.std.proofs.lemmas.Result.{err_from_is_err_and}
use Rattle.boot_sector.specs.declared.boot.Boot.{Boot}
use Rattle.image_open.specs.Volumes.{boot_on, Opened, opened_by, opened_in}
use Rattle.image_open.specs.Openings.{opened_as}
use Rattle.image_open.proofs.Steps.{fails_first, goes_on_as}
use Rattle.image_open.proofs.opening.open_volume.Goals as goal

pub returns-in_err-boot-clause-answer : goal.returns-in_err-boot-clause-answer
unfolding opened_in
returns-in_err-boot-clause-answer g c =
    let p = err_from_is_err_and c.from_residual-in_err-boot.result c.from_residual-in_err-boot.ensures.1 in
    rw (p.1, p.2) (fails_first _ (λ (b : Boot). b) (λ (o : Opened). o) _ (λ content. boot_on content c.args.sectors) (λ content. opened_by content c.args.sectors) c.in_err-boot.ensures.answer)

pub returns-clause-answer : goal.returns-clause-answer
unfolding opened_in
returns-clause-answer g c =
    goes_on_as _ opened_as c.in_ok-boot.boot c.open_boot.result (λ content. boot_on content c.args.sectors) (λ content. opened_by content c.args.sectors) c.in_ok-boot.ensures.answer (rw c.in_ok-boot.ensures.kept.same at c.open_boot.ensures.answer)

pub returns-clause-found : goal.returns-clause-found
returns-clause-found g c = rw c.in_ok-boot.ensures.kept.same at c.open_boot.ensures.found
