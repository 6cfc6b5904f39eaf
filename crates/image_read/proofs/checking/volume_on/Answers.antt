use Rattle.std.proofs.lemmas.Result.{err_from_is_err_and}
use Rattle.volume_check.specs.volume_model.Volumes.{volume_of}
use Rattle.image_open.specs.volume_map.Maps.{volume_in}
use Rattle.image_open.proofs.Steps.{map_error, map_value}
use Rattle.image_read.specs.Checks.{volume_on}
use Rattle.image_read.proofs.checking.volume_on.Goals as goal

pub returns-in_err-load_volume-clause-answer : goal.returns-in_err-load_volume-clause-answer
unfolding volume_on
returns-in_err-load_volume-clause-answer g c =
    let p = err_from_is_err_and c.from_residual.result c.from_residual.ensures.1 in
    rw p.1 (map_error _ volume_in volume_in _ _ (λ content. volume_of content c.args.geometry.now c.args.total) p.2 c.in_err-load_volume.ensures.answer)

pub returns-clause-answer : goal.returns-clause-answer
unfolding volume_on
returns-clause-answer g c = map_value _ _ (λ content. volume_of content c.args.geometry.now c.args.total) c.in_ok-load_volume.ensures.answer
