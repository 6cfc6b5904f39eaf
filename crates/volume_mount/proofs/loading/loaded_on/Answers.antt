use Rattle.std.proofs.Common.{ℕ, List}
use Rattle.std.proofs.lemmas.Result.{err_from_is_err_and}
use Rattle.image_read.specs.volume_map.Maps.{volume_in}
use Rattle.image_read.proofs.image_open.Steps.{fails_first}
use Rattle.image_read.specs.Checks.{volume_on}
use Rattle.volume_mount.specs.declared.loading.LoadedVolume.{LoadedVolume}
use Rattle.volume_shadows.specs.Live.{least_lsn}
use Rattle.volume_mount.specs.Mounts.{tried, loaded_on}
use Rattle.volume_mount.proofs.Chained.{fails_behind, gives_behind}
use Rattle.volume_mount.proofs.loading.loaded_on.Goals as goal

pub returns-in_err-map-clause-answer : goal.returns-in_err-map-clause-answer
unfolding loaded_on
returns-in_err-map-clause-answer g c =
    let p = err_from_is_err_and c.from_residual.result c.from_residual.ensures.1 in
    rw (p.1, p.2) (fails_first _ volume_in (λ (l : LoadedVolume). volume_in l.map) _ (λ content. volume_on content c.args.geometry.now c.args.total) (tried (least_lsn c.args.shadows.now) c.args.place.now) c.in_err-map.ensures.answer)

pub tried-requires : goal.tried-requires
tried-requires g c = record { parts = rw c.in_ok-map.ensures.kept.same c.in_ok-map.ensures.parts }

pub returns-in_err-upper-clause-answer : goal.returns-in_err-upper-clause-answer
unfolding loaded_on
returns-in_err-upper-clause-answer g c =
    let p = err_from_is_err_and c.from_residual-in_err-upper.result c.from_residual-in_err-upper.ensures.1 in
    rw (p.1, p.2) (fails_behind _ (λ (_ : List ℕ). volume_in c.in_ok-map.map) (λ (l : LoadedVolume). volume_in l.map) _ (volume_in c.in_ok-map.map) (λ content. volume_on content c.args.geometry.now c.args.total) (tried (least_lsn c.args.shadows.now) c.args.place.now)
    c.in_ok-map.ensures.answer (rw c.in_ok-map.ensures.kept.same at c.in_err-upper.ensures.answer))

pub returns-clause-answer : goal.returns-clause-answer
unfolding loaded_on
returns-clause-answer g c =
    gives_behind _ (volume_in c.in_ok-map.map) (volume_in c.in_ok-map.map) (λ content. volume_on content c.args.geometry.now c.args.total) (tried (least_lsn c.args.shadows.now) c.args.place.now)
    c.in_ok-map.ensures.answer (rw c.in_ok-map.ensures.kept.same at c.in_ok-upper.ensures.answer)
