use Rattle.std.proofs.lemmas.Result.{err_from_is_err_and}
use Rattle.image_open.specs.volume_map.Maps.{volume_in}
use Rattle.image_open.proofs.Steps.{fails_first, goes_on}
use Rattle.image_read.specs.Checks.{volume_on}
use Rattle.image_read.proofs.loading.load_and_read.Goals as goal

pub returns-in_err-map-clause-answer : goal.returns-in_err-map-clause-answer
returns-in_err-map-clause-answer g c =
    let p = err_from_is_err_and c.from_residual.result c.from_residual.ensures.1 in
    rw (p.1, p.2) (fails_first _ volume_in g.R.MapReader.shown _ (λ content. volume_on content c.args.geometry.now c.args.total) (g.R.MapReader.meant c.args.reader.now) c.in_err-map.ensures.answer)

pub returns-clause-answer : goal.returns-clause-answer
returns-clause-answer g c =
    goes_on _ g.R.MapReader.shown (volume_in c.in_ok-map.map) c.read.result (λ content. volume_on content c.args.geometry.now c.args.total) (g.R.MapReader.meant c.args.reader.now) c.in_ok-map.ensures.answer (rw c.in_ok-map.ensures.kept.same at c.read.ensures.answer)

pub read-requires : goal.read-requires
read-requires g c = record { parts = rw c.in_ok-map.ensures.kept.same c.in_ok-map.ensures.parts }
