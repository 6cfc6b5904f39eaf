use Rattle.std.proofs.Common.{ℕ, List}
use Rattle.std.proofs.lemmas.Result.{err_from_is_err_and}
use Rattle.volume_state.specs.volume_model.Volumes.{upper_of}
use Rattle.image_read.specs.volume_map.Maps.{volume_in}
use Rattle.image_read.proofs.image_open.Steps.{fails_at_once, goes_on_at_once}
use Rattle.image_read.specs.Checks.{has_version}
use Rattle.volume_shadows.specs.Live.{least_lsn}
use Rattle.volume_mount.specs.Mounts.{unjournaled, tried}
use Rattle.volume_mount.proofs.loading.tried.Goals as goal

pub returns-in_err-check_version-clause-answer : goal.returns-in_err-check_version-clause-answer
unfolding tried
returns-in_err-check_version-clause-answer g c =
    let p = err_from_is_err_and c.from_residual.result c.from_residual.ensures.1 in
    rw (p.1, p.2) (fails_at_once _ (λ (x : Unit {0}). x) (λ (_ : List ℕ). volume_in c.args.map.now) _ (has_version (volume_in c.args.map.now)) (λ content _. unjournaled (least_lsn c.args.shadows.now) (upper_of content (volume_in c.args.map.now)) c.args.place.now content (volume_in c.args.map.now)) c.in_err-check_version.ensures.answer)

pub returns-clause-answer : goal.returns-clause-answer
unfolding tried
returns-clause-answer g c =
    goes_on_at_once _ (λ (_ : List ℕ). volume_in c.args.map.now) c.in_ok-check_version.field-0 c.tried_upper.result (has_version (volume_in c.args.map.now)) (λ content _. unjournaled (least_lsn c.args.shadows.now) (upper_of content (volume_in c.args.map.now)) c.args.place.now content (volume_in c.args.map.now)) c.in_ok-check_version.ensures.answer c.tried_upper.ensures.answer
