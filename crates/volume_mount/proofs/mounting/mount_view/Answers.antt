use Rattle.std.proofs.lemmas.Result.{err_from_is_err_and}
use Rattle.image_read.specs.image_open.Writing.{OpenedToWrite, opened_to_write_in}
use Rattle.image_read.proofs.image_open.Steps.{fails_first}
use Rattle.volume_mount.specs.Mounts.{MountedVolume, mounted_by, mounted_in}
use Rattle.volume_mount.proofs.Opened.{mounts_on}
use Rattle.volume_mount.proofs.mounting.mount_view.Goals as goal

pub returns-in_err-opening-clause-answer : goal.returns-in_err-opening-clause-answer
unfolding mounted_in
returns-in_err-opening-clause-answer g c =
    let p = err_from_is_err_and c.from_residual.result c.from_residual.ensures.1 in
    rw (p.1, p.2) (fails_first _ (λ (o : OpenedToWrite). o) (λ (m : MountedVolume). m) _ (λ content. opened_to_write_in content c.args.sectors) mounted_by c.in_err-opening.ensures.answer)

pub returns-clause-answer : goal.returns-clause-answer
returns-clause-answer g c = mounts_on _ c.args.sectors c.in_ok-opening.opening c.mount_opening.result c.in_ok-opening.ensures.answer (rw c.in_ok-opening.ensures.kept.same at c.mount_opening.ensures.answer)
