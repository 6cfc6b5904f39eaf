use Rattle.std.proofs.Common.{List, Bool, subst}
use Rattle.std.proofs.lemmas.Result.{err_from_is_err_and}
use Rattle.host_base.specs.Answers.{Gives}
use Rattle.volume_state.specs.volume_model.Volumes.{Volume, cluster_bits}
use Rattle.image_read.specs.volume_map.Maps.{volume_in, IsMapOf}
use Rattle.image_read.specs.image_open.Errors.{scan_cause}
use Rattle.image_read.proofs.image_open.Steps.{fails_first}
use Rattle.volume_shadows.specs.Live.{least_lsn}
use Rattle.volume_mount.specs.Mounts.{ruled, placed, settled}
use Rattle.volume_mount.proofs.Chained.{then_gives_by}
use Rattle.volume_mount.proofs.loading.settled.Goals as goal

pub returns-in_err-ruled-clause-answer : goal.returns-in_err-ruled-clause-answer
unfolding settled
returns-in_err-ruled-clause-answer g c =
    let p = err_from_is_err_and c.from_residual.result c.from_residual.ensures.1 in
    rw (p.1, p.2) (fails_first _ (λ (_ : Unit {0}). volume_in c.args.map.now) (λ (_ : Unit {0}). volume_in c.args.map.now) _ (λ content. ruled content (volume_in c.args.map.now))
    (λ content (w : Volume). placed (least_lsn c.args.shadows.now) c.args.place.now (cluster_bits content w) w) c.in_err-ruled.ensures.answer)

pub returns-clause-answer : goal.returns-clause-answer
unfolding settled
returns-clause-answer g c =
    then_gives_by _ (λ (_ : Unit {0}). volume_in c.args.map.now) (volume_in c.args.map.now) c.placed.result (λ content. IsMapOf content c.args.map.now) (λ content. ruled content (volume_in c.args.map.now))
    (λ content (w : Volume). placed (least_lsn c.args.shadows.now) c.args.place.now (cluster_bits content w) w)
    (λ content is. subst (λ (bits : List Bool). Gives (λ (_ : Unit {0}). volume_in c.args.map.now) scan_cause c.placed.result (placed (least_lsn c.args.shadows.now) c.args.place.now bits (volume_in c.args.map.now))) is.clusters c.placed.ensures)
    c.requires.parts c.in_ok-ruled.ensures.answer
