use Rattle.std.proofs.lemmas.Result.{err_from_is_err_and}
use Rattle.image_read.specs.volume_map.Maps.{volume_in}
use Rattle.image_read.proofs.image_open.Steps.{fails_at_once, goes_on_at_once}
use Rattle.volume_shadows.specs.Live.{least_lsn}
use Rattle.volume_mount.specs.Mounts.{has_no_journal, paged, unjournaled}
use Rattle.volume_mount.proofs.loading.unjournaled.Goals as goal

pub returns-in_err-has_no_journal-clause-answer : goal.returns-in_err-has_no_journal-clause-answer
unfolding unjournaled
returns-in_err-has_no_journal-clause-answer g c =
    let p = err_from_is_err_and c.from_residual.result c.from_residual.ensures.1 in
    rw (p.1, p.2) (fails_at_once _ (λ (x : Unit {0}). x) (λ (_ : Unit {0}). volume_in c.args.map.now) _ (has_no_journal c.args.up.now (volume_in c.args.map.now)) (λ content _. paged (least_lsn c.args.shadows.now) c.args.place.now content (volume_in c.args.map.now)) c.in_err-has_no_journal.ensures)

pub returns-clause-answer : goal.returns-clause-answer
unfolding unjournaled
returns-clause-answer g c =
    goes_on_at_once _ (λ (_ : Unit {0}). volume_in c.args.map.now) c.in_ok-has_no_journal.field-0 c.paged.result (has_no_journal c.args.up.now (volume_in c.args.map.now)) (λ content _. paged (least_lsn c.args.shadows.now) c.args.place.now content (volume_in c.args.map.now)) c.in_ok-has_no_journal.ensures c.paged.ensures.answer
