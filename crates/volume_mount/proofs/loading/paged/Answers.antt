use Rattle.std.proofs.lemmas.Result.{err_from_is_err_and}
use Rattle.image_read.specs.volume_map.Maps.{volume_in}
use Rattle.image_read.proofs.image_open.Steps.{fails_at_once, goes_on_at_once}
use Rattle.volume_shadows.specs.Live.{least_lsn}
use Rattle.volume_mount.specs.Mounts.{has_pages, settled, paged}
use Rattle.volume_mount.proofs.loading.paged.Goals as goal

pub returns-in_err-has_pages-clause-answer : goal.returns-in_err-has_pages-clause-answer
unfolding paged
returns-in_err-has_pages-clause-answer g c =
    let p = err_from_is_err_and c.from_residual.result c.from_residual.ensures.1 in
    rw (p.1, p.2) (fails_at_once _ (λ (x : Unit {0}). x) (λ (_ : Unit {0}). volume_in c.args.map.now) _ (has_pages c.args.place.now) (λ content _. settled (least_lsn c.args.shadows.now) c.args.place.now content (volume_in c.args.map.now)) c.in_err-has_pages.ensures)

pub returns-clause-answer : goal.returns-clause-answer
unfolding paged
returns-clause-answer g c =
    goes_on_at_once _ (λ (_ : Unit {0}). volume_in c.args.map.now) c.in_ok-has_pages.field-0 c.settled.result (has_pages c.args.place.now) (λ content _. settled (least_lsn c.args.shadows.now) c.args.place.now content (volume_in c.args.map.now)) c.in_ok-has_pages.ensures c.settled.ensures.answer
