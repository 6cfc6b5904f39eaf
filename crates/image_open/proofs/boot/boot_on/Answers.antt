use Rattle.std.proofs.lemmas.Result.{err_from_is_err_and}
use Rattle.boot_sector.specs.declared.boot.Boot.{Boot}
use Rattle.image_open.specs.Volumes.{boot_in, sized_on, boot_on}
use Rattle.image_open.proofs.Steps.{fails_first, then_gives}
use Rattle.image_open.proofs.boot.boot_on.Goals as goal

pub returns-in_err-boot-clause-answer : goal.returns-in_err-boot-clause-answer
unfolding boot_on
returns-in_err-boot-clause-answer g c =
    let p = err_from_is_err_and c.from_residual.result c.from_residual.ensures.1 in
    rw (p.1, p.2) (fails_first _ (λ (b : Boot). b) (λ (b : Boot). b) _ boot_in (λ content. sized_on c.args.sectors) c.in_err-boot.ensures.answer)

pub returns-clause-answer : goal.returns-clause-answer
unfolding boot_on
returns-clause-answer g c = then_gives _ (λ (b : Boot). b) c.in_ok-boot.boot c.sized_on.result boot_in (sized_on c.args.sectors) c.in_ok-boot.ensures.answer c.sized_on.ensures.answer
