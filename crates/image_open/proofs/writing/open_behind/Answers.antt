use Rattle.std.proofs.lemmas.Result.{err_from_is_err_and}
use Rattle.boot_sector.specs.declared.boot.Boot.{Boot}
use Rattle.image_open.specs.Volumes.{boot_on}
use Rattle.image_open.specs.Writing.{OpenedToWrite, opened_with, opened_behind}
use Rattle.image_open.proofs.Steps.{fails_first}
use Rattle.image_open.proofs.ToWrite.{goes_on_opening}
use Rattle.image_open.proofs.writing.open_behind.Goals as goal

pub returns-in_err-boot-clause-answer : goal.returns-in_err-boot-clause-answer
unfolding opened_behind
returns-in_err-boot-clause-answer g c =
    let p = err_from_is_err_and c.from_residual.result c.from_residual.ensures.1 in
    rw (p.1, p.2) (fails_first _ (λ (b : Boot). b) (λ (o : OpenedToWrite). o) _ (λ content. boot_on content c.args.sectors) (λ content. opened_with content c.args.sectors) c.in_err-boot.ensures.answer)

pub returns-clause-answer : goal.returns-clause-answer
unfolding opened_behind
returns-clause-answer g c =
    goes_on_opening _ c.in_ok-boot.boot c.open_with.result (λ content. boot_on content c.args.sectors) (λ content. opened_with content c.args.sectors) c.in_ok-boot.ensures.answer (rw c.in_ok-boot.ensures.kept.same at c.open_with.ensures.answer)
